use Rattle.std.proofs.Common.{sym, subst}
use Rattle.std.specs.Prelude.{All}
use Rattle.std.proofs.lemmas.Map.Views.{All-insert_key}
use Rattle.svn_disk_audit.specs.Pristine.{HasText}
use Rattle.svn_disk_audit.proofs.keeping.Keeper.add_name.Goals as goal

pub returns-clause-read : goal.returns-clause-read
returns-clause-read c = λ store read text. (
  subst (λ names. All (λ v. HasText store v.items) names) (sym c.in_ok-insert.ensures.keys)
      (All-insert_key _ c.in_ok-to_vec.field-0 (λ v. HasText store v.items) c.args.self.now.names.keys read.0
      (subst (HasText store) (sym c.in_ok-to_vec.ensures) text)),
  read.1,
)
