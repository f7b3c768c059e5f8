use Rattle.std.proofs.Common.{rules, ◌≡◌, ◌∙◌, ap, sym, [], Some}
use Rattle.std.proofs.lemmas.Bool.{false≢true}
use Rattle.std.specs.Option.{option_copied}
use Rattle.svn_answers.specs.Entries.{entry_by}
use Rattle.svn_answers.proofs.Entries.{entry_is, entry_is_none, no_entry_of_root}
use Rattle.svn_answers.proofs.entry.entry_by.Goals.{in_default-last_name-via-in-Some+else-is_child_of, in_default-last_name-via-in_default-last_name}
use Rattle.svn_answers.proofs.entry.entry_by.Goals as goal

pub returns-in_ok-clone-in-Some : goal.returns-in_ok-clone-in-Some
returns-in_ok-clone-in-Some c =
    let name = c.in-Some.name.now in
    let cloned : c.in_ok-clone-in-Some.field-0 ≡ name = search rules in
    ap (λ n. Some n) cloned
    ∙ sym (entry_is c.args.below.now c.in-Some-Some.at.now c.in-Some-Some.above.now name c.in-Some.ensures.name (c.is_child_of.ensures.child.0 c.if-is_child_of.true))
    ∙ (λ i. entry_by c.args.below.now (option_copied (sym c.in-Some-Some.is-0 i)) (option_copied (sym c.in-Some-Some.is-1 i)))

pub returns-in_default-last_name : goal.returns-in_default-last_name
returns-in_default-last_name c =
    elim c.in_default-last_name.branch [
      | in_default-last_name-via-in-Some+else-is_child_of w ↦
          sym
          (entry_is_none c.args.below.now c.in-Some-Some.at.now c.in-Some-Some.above.now w.in-Some.name.now w.in-Some.ensures.name
          (λ e. absurd (false≢true (sym w.if-is_child_of.false ∙ w.is_child_of.ensures.child.1 e))))
          ∙ (λ i. entry_by c.args.below.now (option_copied (sym c.in-Some-Some.is-0 i)) (option_copied (sym c.in-Some-Some.is-1 i)))
      | in_default-last_name-via-in_default-last_name w ↦
          let root : c.args.below.now ≡ [] = search rules in
          sym (no_entry_of_root c.args.below.now (option_copied c.args.at) (option_copied c.args.above) root)
    ]
