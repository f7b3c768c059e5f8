use Rattle.std.proofs.Common.{◌≡◌, ℕ, List, sym, subst, rules}
use Rattle.std.specs.Prelude.{All}
use Rattle.svn_disk_audit.specs.Pristine.{HasKept}
use Rattle.svn_disk_audit.proofs.KeptTexts.{words_more}
use Rattle.svn_disk_audit.proofs.keeping.Keeper.add_word.Goals as goal

pub returns-clause-read : goal.returns-clause-read
returns-clause-read c = λ store read kept.
    let texts = c.args.self.now.reader.texts in
    let name = c.in_ok-to_vec.field-0 in
    let same : c.in_ok-clone.field-0 ≡ c.args.word.now = search rules in (
      read.0,
      subst (λ entries. All (λ e. HasKept store texts e.0.items e.1) entries) (sym c.in_ok-insert.ensures.entries)
          (words_more (λ v. v.items) (HasKept store texts) name c.in_ok-clone.field-0 c.args.self.now.words.entries read.1
          (subst (λ (n : List ℕ). HasKept store texts n c.in_ok-clone.field-0) (sym c.in_ok-to_vec.ensures)
          (subst (HasKept store texts c.args.name.now) (sym same) kept))),
    )
