use Rattle.std.proofs.Common.{◌≡◌, List, ℕ, Result, Ok, Err, rules, sym, subst}
use Rattle.std.proofs.lemmas.Bool.{false_from_ne_true}
use Rattle.std.proofs.lemmas.Str.{is_utf8-from_IsUtf8, IsUtf8-from_is_utf8}
use Rattle.std.specs.Str.{is_utf8}
use Rattle.svn_types.specs.declared.fault.PathBytesFault.{PathBytesFault}
use Rattle.svn_types.specs.declared.fault.PathBytesFault.TheVariants as bytes_fault
use Rattle.svn_types.specs.Names.{Path}
use Rattle.svn_types.specs.NameFaults.{AnswersText, AnswersBytes}
use Rattle.svn_types.proofs.rel_path.RelPath.from_bytes.Goals as goal

pub returns-in_ok-parse-in-Ok : goal.returns-in_ok-parse-in-Ok
returns-in_ok-parse-in-Ok c = (
  is_utf8-from_IsUtf8 c.args.bytes.now c.in-Ok.ensures.cases.1,
  subst (λ (text : List ℕ). AnswersText text (Ok c.in_ok-parse-in-Ok.field-0)) c.in-Ok.ensures.cases.0 c.in_ok-parse-in-Ok.ensures,
)

pub returns-in_err-parse-in-Ok : goal.returns-in_err-parse-in-Ok
returns-in_err-parse-in-Ok c =
    let fault = c.in_err-parse-in-Ok.field-0.0 in
    let same : c.from_residual.result ≡ Err (bytes_fault.Path fault) = search rules in
    subst (λ (r : Result Path PathBytesFault). AnswersBytes c.args.bytes.now r) (sym same) (
      is_utf8-from_IsUtf8 c.args.bytes.now c.in-Ok.ensures.cases.1,
      subst (λ (text : List ℕ). AnswersText text (Err fault)) c.in-Ok.ensures.cases.0 c.in_err-parse-in-Ok.ensures,
    )

pub returns-in-Err : goal.returns-in-Err
returns-in-Err c =
    false_from_ne_true (is_utf8 c.args.bytes.now) (λ t. c.in-Err.ensures.cases.0 (IsUtf8-from_is_utf8 c.args.bytes.now t))
