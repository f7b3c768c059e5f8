use Rattle.std.proofs.Common.{List, ℕ, refl, subst}
use Rattle.std.specs.Str.{is_utf8}
use Rattle.std.proofs.lemmas.Bool.{false_from_ne_true}
use Rattle.std.proofs.lemmas.Str.{is_utf8-from_IsUtf8, IsUtf8-from_is_utf8}
use Rattle.svn_types.specs.NameFaults.{name_fault}
use Rattle.svn_ask.specs.declared.fault.Reason.TheVariants.{BadName}
use Rattle.svn_ask.specs.Reading.{Gives}
use Rattle.svn_ask.specs.Answers.{unless_fault}
use Rattle.svn_ask.proofs.names.read_name.Goals as goal

pub returns-in-Ok : goal.returns-in-Ok
returns-in-Ok c =
    rw (is_utf8-from_IsUtf8 c.args.name.now c.in-Ok.ensures.cases.1)
    (subst (λ (text : List ℕ). Gives (λ n. n) c.read_text.result (unless_fault BadName (name_fault text) text)) c.in-Ok.ensures.cases.0 c.read_text.ensures)

pub returns-in-Err : goal.returns-in-Err
returns-in-Err c =
    rw (false_from_ne_true (is_utf8 c.args.name.now) (λ t. c.in-Err.ensures.cases.0 (IsUtf8-from_is_utf8 c.args.name.now t))) refl
