use Rattle.std.proofs.Common.{refl}
use Rattle.std.proofs.lemmas.Option.{none-some}
use Rattle.svn_edit.proofs.Beginning.{begun_batons}
use Rattle.svn_edit.proofs.pending.Pending.new.Goals as goal

pub returns-clause-begun : goal.returns-clause-begun
returns-clause-begun c = λ mode nodes. record {
  lawful = tt;
  copy = λ p. refl;
  going = λ h. record {
    target = refl;
    batons = begun_batons c.in-Ok.pools c.new-2.result c.in-Ok.ensures.made c.new-2.ensures;
  };
  noted = λ h t b g there is. absurd (none-some g is);
}
