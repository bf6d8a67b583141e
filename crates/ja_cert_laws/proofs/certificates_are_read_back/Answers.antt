-- Two certificates are compared by their JSON, part after part; what is written is right part after
-- part. The numbers and texts of a table are of the profile, as it is kept.
use Rattle.ja_table.proofs.ProfileLemmas.{table_of_profile}
use Rattle.ja_cert_laws.specs.Back.{written as text_of}
use Rattle.ja_cert_laws.proofs.Same.{not_refused, says_same}
use Rattle.ja_cert_laws.proofs.ShapedTables.{solved_written}
use Rattle.ja_cert_laws.proofs.Whole.{written_is_certificate, written_is_utf8}
use Rattle.ja_cert_laws.proofs.certificates_are_read_back.Goals as goal

pub returns-clause-written : goal.returns-clause-written
returns-clause-written c d can = written_is_certificate d can (table_of_profile d.table)

pub returns-clause-utf8 : goal.returns-clause-utf8
returns-clause-utf8 c d can = written_is_utf8 d can (table_of_profile d.table)

pub returns-clause-solved : goal.returns-clause-solved
returns-clause-solved c = solved_written

pub returns-clause-one : goal.returns-clause-one
returns-clause-one c bytes d e h j =
    says_same bytes d e h j (table_of_profile d.table) (table_of_profile e.table)

pub returns-clause-not_refused : goal.returns-clause-not_refused
returns-clause-not_refused c bytes d f h formed none = not_refused bytes d h formed f none

pub returns-clause-back : goal.returns-clause-back
returns-clause-back c d e can is =
    let first = table_of_profile d.table in
    says_same (text_of d) d e (written_is_certificate d can first) is first
    (table_of_profile e.table)

pub returns-clause-explained : goal.returns-clause-explained
returns-clause-explained c d f can none =
    not_refused (text_of d) d (written_is_certificate d can (table_of_profile d.table))
    can.loaded.well_formed f none
