use Rattle.std.proofs.Common.{◌≡◌, ◌-◌, [], ◌∷◌, length, ap, sym, ◌∙◌}
use Rattle.std.specs.Prelude.{Option, Some, None, MatchOption, IfSome, slice_get}
use Rattle.std.specs.Option.{option_copied}
use denote.Ref.{Bor}
use Rattle.svn_lists.proofs.Places.{empty_from_no_last}
use Rattle.svn_types.specs.Names.{Path}
use Rattle.svn_types.specs.Paths.{child, parent, last_name}
use Rattle.svn_types.proofs.NameLemmas.{Name}
use Rattle.svn_types.proofs.PathLemmas.{split_at_last, last_name-child}
use Rattle.svn_types.proofs.rel_path.RelPath.last_name.Goals as goal

named : (p : Path) (o : Option (Bor Name)) → option_copied o ≡ slice_get p (length p - 1)
    → MatchOption o (p ≡ []) (λ n. last_name p ≡ n.now ∷ [])
named p None h = empty_from_no_last p (sym h)
named p (Some n) h = ap last_name (split_at_last p n.now (sym h)) ∙ last_name-child (parent p) n.now

split : (p : Path) (o : Option (Bor Name)) → option_copied o ≡ slice_get p (length p - 1) → IfSome o (λ n. p ≡ child (parent p) n.now)
split p None h = tt
split p (Some n) h = split_at_last p n.now (sym h)

pub returns-clause-name : goal.returns-clause-name
returns-clause-name c =
    named c.args.self.now c.last.result
    (c.last.ensures.value ∙ ap (λ (p : Path). slice_get p (length p - 1)) c.components.ensures.names)

pub returns-clause-split : goal.returns-clause-split
returns-clause-split c =
    split c.args.self.now c.last.result
    (c.last.ensures.value ∙ ap (λ (p : Path). slice_get p (length p - 1)) c.components.ensures.names)
