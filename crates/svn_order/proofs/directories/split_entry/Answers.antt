use Rattle.std.proofs.Common.{◌≡◌, ℕ, List, length, sym, ◌∙◌, ap}
use Rattle.std.specs.Prelude.{Option, Some, None, MatchOption}
use Rattle.std.specs.List.{IsLastAndRest}
use Rattle.std.specs.Borrow.{Bor}
use Rattle.std.proofs.lemmas.List.{nil_from_length}
use Rattle.svn_types.specs.Names.{Path}
use Rattle.svn_types.specs.Paths.{is_root}
use Rattle.svn_order.specs.Directories.{EntrySplit}
use Rattle.svn_order.proofs.Changes.{split_path}
use Rattle.svn_order.proofs.directories.split_entry.Goals as goal

split_is : (p q : Path) (o : Option (Bor (List ℕ) × Bor Path)) → q ≡ p → MatchOption o (length q ≡ 0) (λ e. IsLastAndRest q e.0.now e.1.now)
    → EntrySplit p o
split_is p q None same h = ap is_root (sym same ∙ nil_from_length q h)
split_is p q (Some e) same h = split_path p e.1.now e.0.now (sym same ∙ h.0)

pub returns : goal.returns
returns c = split_is c.args.path.now c.components.result.now c.split_last.result c.components.ensures.names c.split_last.ensures.cases
