use Rattle.std.proofs.lemmas.Map.Lookups.{btree_map_eq-Decides}
use Rattle.std.proofs.lemmas.Slice.Eq.{bytes_eq-Decides}
use Rattle.std.specs.Str.{bytes_eq}
use Rattle.svn_types.proofs.props.Props.is_same.Goals as goal

pub returns : goal.returns
returns c = rw (← c.self.view_is, ← c.other.view_is)
    (btree_map_eq-Decides {E = bytes_eq} {F = bytes_eq} bytes_eq-Decides bytes_eq-Decides c.self.inside.map c.other.inside.map
    c.eq.result c.eq.ensures)
