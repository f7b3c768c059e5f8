use Rattle.std.proofs.Common.{[], map, sym, ◌∙◌, ap, subst}
use Rattle.std.specs.Map.Iter.{deref_pair}
use Rattle.svn_types.specs.Paths.{is_within}
use Rattle.svn_drive.specs.Parts.{IsPart}
use Rattle.svn_drive.proofs.Parts.{whole_part}
use Rattle.svn_drive.proofs.walk.Walk.visit_root.Goals as goal

pub root-root-requires : goal.root-root-requires
root-root-requires g c =
    let es = c.args.self.now.report.now.entries in
    subst (IsPart es (is_within [])) (sym (c.of.ensures ∙ ap (map deref_pair) c.deref.ensures.value))
    (whole_part es (map deref_pair c.in_ok-entries.entries.items) c.in_ok-entries.ensures.same c.in_ok-entries.ensures.ordered)
