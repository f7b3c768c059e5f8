use Rattle.std.proofs.Common.{◌≡◌, ℕ, ◌^◌, ◌<◌, List, ◌++◌, ◌∙◌, ap, append_assoc, arith}
use Rattle.svn_dump.specs.Written.{revision_record}
use Rattle.svn_history.proofs.history_writer.commit_with.Goals as goal

pub returns-clause-written : goal.returns-clause-written
returns-clause-written c =
    let out = c.args.out.now.items in
    let records = c.args.records.now in
    let rev = c.in_ok-commit.field-0 in
    let fits : rev < 2 ^ 64 = omega arith in
    let beginning : c.deref.result.now ≡ revision_record rev =
    c.deref.ensures.value ∙ c.in_ok-beginning.ensures.bytes rev fits c.in_ok-commit.ensures.ok in
    c.in_ok-extend_from_slice-2.ensures.items
    ∙ ap (λ (l : List ℕ). l ++ records) (c.in_ok-extend_from_slice.ensures.items ∙ ap (λ (l : List ℕ). out ++ l) beginning)
    ∙ append_assoc out (revision_record rev) records
