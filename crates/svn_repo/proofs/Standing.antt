-- What is at a path of a draft.
use Rattle.std.proofs.Common.{◌≡◌, ℕ, ◌<◌, true, cond, List, length, refl, Option, Some, None, sym, ap, ◌∙◌}
use Rattle.std.specs.Prelude.{nat_lt}
use Rattle.std.specs.List.{slice_get}
use Rattle.std.specs.Option.{option_and_then, option_map, is_some}
use Rattle.svn_lists.proofs.Places.{is_some-slice_get}
use Rattle.svn_repo.specs.declared.store.Node.{Node}
use Rattle.svn_types.specs.Names.{Path}
use Rattle.svn_repo.specs.History.{walk}
use Rattle.svn_repo.specs.Stored.{row_of, rows}
use Rattle.svn_repo.specs.Trees.{place_of, place_at}
use Rattle.svn_repo.specs.Drafts.{IsClosedIn, tree_in}
use Rattle.svn_repo.proofs.Thawing.{in_range}

is_some-maps : (number : Option ℕ) (o : Option Node) → is_some (option_map (place_of number) (option_map row_of o)) ≡ is_some o
is_some-maps number None = refl
is_some-maps number (Some x) = refl

pub is_some-place_at : (base : ℕ) (nodes : List Node) (n : ℕ) → n < length nodes → is_some (place_at (rows nodes) base n) ≡ true
is_some-place_at base nodes n h = is_some-maps (cond (nat_lt n base) (Some n) None) (slice_get nodes n) ∙ is_some-slice_get nodes n h

pub by_walk : (base : ℕ) (nodes : List Node) (o : Option ℕ) → ((n : ℕ) → o ≡ Some n → n < length nodes)
    → is_some o ≡ is_some (option_and_then (place_at (rows nodes) base) o)
by_walk base nodes None h = refl
by_walk base nodes (Some n) h = sym (is_some-place_at base nodes n (h n refl))

-- where the way leads to a node, something is there
pub stands_at : (base : ℕ) (nodes : List Node) (root n : ℕ) (p : Path) → root < length nodes → IsClosedIn nodes
    → walk (rows nodes) root p ≡ Some n → is_some (tree_in base nodes root p) ≡ true
stands_at base nodes root n p inside closed e = ap (λ o. is_some (option_and_then (place_at (rows nodes) base) o)) e
    ∙ is_some-place_at base nodes n (in_range nodes closed root n p inside e)
