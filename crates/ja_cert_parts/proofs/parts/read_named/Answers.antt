use Rattle.std.proofs.Common.{sym}
use Rattle.ja_cert.specs.Wrong.{flag_words, number_classes, text_classes}
use Rattle.ja_cert_parts.proofs.PartLemmas.{named_flag, named_none, named_number, named_text}
use Rattle.ja_cert_parts.proofs.WordLemmas.{position_is}
use Rattle.ja_cert_parts.proofs.parts.read_named.Goals as goal

pub number_at-requires : goal.number_at-requires
number_at-requires c =
    (position_is number_classes c.args.word.now c.in-Some.place (sym c.in-Some.ensures)).0

pub returns-in-Some : goal.returns-in-Some
returns-in-Some c =
    named_number c.args.word.now c.in-Some.place c.number_at.result c.in-Some.ensures
    c.number_at.ensures

pub text_at-requires : goal.text_at-requires
text_at-requires c =
    (position_is text_classes c.args.word.now c.in-Some-position.place
    (sym c.in-Some-position.ensures)).0

pub returns-in-Some-position : goal.returns-in-Some-position
returns-in-Some-position c =
    named_text c.args.word.now c.in-Some-position.place c.text_at.result c.in_default.ensures
    c.in-Some-position.ensures c.text_at.ensures

pub flag_at-requires : goal.flag_at-requires
flag_at-requires c =
    (position_is flag_words c.args.word.now c.in-Some-position-2.place
    (sym c.in-Some-position-2.ensures)).0

pub returns-in-Some-position-2 : goal.returns-in-Some-position-2
returns-in-Some-position-2 c =
    named_flag c.args.word.now c.in-Some-position-2.place c.flag_at.result c.in_default.ensures
    c.in_default-position.ensures c.in-Some-position-2.ensures c.flag_at.ensures.word
    c.flag_at.ensures.rank

pub returns-in-None : goal.returns-in-None
returns-in-None c =
    named_none c.args.word.now c.here.result c.in_default.ensures c.in_default-position.ensures
    c.in-None.ensures c.here.ensures
