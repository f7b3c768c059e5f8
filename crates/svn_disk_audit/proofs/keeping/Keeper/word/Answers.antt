use Rattle.std.proofs.Common.{◌≡◌, ℕ, List, sym, ap, subst, ◌∙◌, rules}
use Rattle.std.specs.BTreeMap.{is_at}
use Rattle.std.specs.Map.{lookup}
use Rattle.std.specs.Option.{option_copied}
use Rattle.std.specs.Ordering.{nat_cmp}
use Rattle.std.specs.Cmp.Lexicographic.{slice_cmp}
use Rattle.svn_disk_audit.specs.Pristine.{HasKept}
use Rattle.svn_disk_audit.proofs.KeptTexts.{found_word}
use Rattle.svn_disk_audit.proofs.keeping.Keeper.word.Goals as goal

pub returns-in_ok-clone-in-Some : goal.returns-in_ok-clone-in-Some
returns-in_ok-clone-in-Some c = λ store read.
    let texts = c.args.self.now.reader.texts in
    let entries = c.args.self.now.words.entries in
    let name : List ℕ = c.args.name.now in
    let word : List ℕ = c.in-Some.word.now in
    let same : c.in_ok-clone-in-Some.field-0 ≡ word = search rules in
    subst (HasKept store texts name) (sym same)
    (found_word (λ v. v.items) (HasKept store texts) name word entries
    (ap (λ (n : List ℕ). lookup (is_at (λ k. slice_cmp nat_cmp n k.items)) entries) (sym c.as_slice.ensures) ∙ sym c.get.ensures.value
    ∙ ap option_copied c.in-Some.is) read.1)
