-- What the rules of the language say of jumps and of labels.
use Rattle.std.proofs.Common.{◌≡◌, ℕ, Bool, true, false, not, ◌&&◌, if◌then◌else◌, List, Option, refl}
use Rattle.ja_base.specs.declared.ids.Place.{Place}
use Rattle.ja_lex.specs.declared.token.Token.{Token}
use Rattle.ja_syntax.specs.declared.tree.Name.{Name}
use Rattle.ja_syntax.specs.declared.tree.Statement.{Statement}
use Rattle.ja_grammar.specs.declared.fault.Refusal.TheVariants.{Unexpected, Broken, Alone, UnknownLabel}
use Rattle.ja_grammar.specs.Contexts.{Context, has_label}
use Rattle.ja_grammar.specs.Forms.{word, is_label_behind}
use Rattle.ja_grammar.specs.Input.{Tokens, Refused, head, behind, strict}
use Rattle.ja_grammar.specs.ReadExpression.{Below}
use Rattle.ja_grammar.specs.ReadStatement.{jump_target, without_target, untargeted, label}

asked : (d : ℕ) (unknown : Bool) (place : Place) (i : Tokens)
    → strict d (if unknown then UnknownLabel place else Unexpected) i ≡ true
unfolding strict
asked d true place i = refl
asked d false place i = refl

-- a jump where there is nothing to leave
pub nothing_to_leave : (d : ℕ) (b : Below) (jump : Option Name → Statement) (c : Context)
    (u : Token) (i : Tokens)
    → untargeted (strict d) b jump c u i ≡ Refused (without_target c u) i
unfolding without_target
nothing_to_leave d b jump c u i =
    rw (asked d (is_label_behind u && not (has_label c (word u))) u.place i) refl

-- a `break` without a label that leaves nothing
pub leaves_nothing : (d : ℕ) (allowed known : List ℕ → Bool) (place : Place) (i : Tokens)
    → is_label_behind (head i) ≡ false
    → jump_target (strict d) allowed known false place i ≡ Refused (Alone place) i
unfolding jump_target strict
leaves_nothing d allowed known place i h = rw h refl

-- a label inside itself
pub inside_itself : (d : ℕ) (b : Below) (c : Context) (i : Tokens)
    → has_label c (word (head i)) ≡ true
    → label (strict d) b c i ≡ Refused (Broken (head i).place) (behind i)
unfolding label strict
inside_itself d b c i h = rw h refl
