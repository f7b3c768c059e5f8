-- The way down: what a thawed way still has of the way before.
use Rattle.std.proofs.Common.{◌≡◌, ℕ, ◌+◌, ◌<◌, Bool, true, false, cond, List, [], ◌∷◌, ◌++◌, length, take, get_or, refl, arith, Option}
use Rattle.std.proofs.Common.{Some, None, sym, ap, ◌∙◌}
use Rattle.std.specs.Prelude.{IsSome, nat_lt}
use Rattle.std.specs.List.{slice_get}
use Rattle.std.specs.Option.{option_and_then, option_map, is_some}
use Rattle.std.proofs.lemmas.List.{take_more}
use Rattle.svn_lists.proofs.Options.{some_from_and_then}
use Rattle.svn_repo.specs.declared.store.Node.{Node}
use Rattle.svn_repo.specs.declared.store.Content.{Content}
use Rattle.svn_repo.specs.declared.store.Content.TheVariants.{Text, Listing}
use Rattle.svn_types.specs.Names.{Path}
use Rattle.svn_repo.specs.History.{child_in, walk}
use Rattle.svn_repo.specs.Stored.{row_of, rows}
use Rattle.svn_repo.specs.Trees.{Place, Tree, place_of, place_at, touched, touch, is_within, IsWay, is_directory_place}
use Rattle.svn_repo.specs.Drafts.{IsThawed, IsListing, ThawsChild, tree_in}
use Rattle.svn_repo.proofs.Walking.{walk_on}
use Rattle.svn_repo.proofs.Thawing.{thaw_more}

some_of_touched : (b : Bool) (o : Option Place) → is_some (cond b (option_map touched o) o) ≡ is_some o
some_of_touched true None = refl
some_of_touched true (Some p) = refl
some_of_touched false o = refl

kind_of_touched : (b : Bool) (o : Option Place) → is_directory_place (cond b (option_map touched o) o) ≡ is_directory_place o
kind_of_touched true None = refl
kind_of_touched true (Some p) = refl
kind_of_touched false o = refl

pub is_some-touch : (t : Tree) (p q : Path) → is_some (touch t p q) ≡ is_some (t q)
is_some-touch t p q = some_of_touched (is_within q p) (t q)

pub is_directory_place-touch : (t : Tree) (p q : Path) → is_directory_place (touch t p q) ≡ is_directory_place (t q)
is_directory_place-touch t p q = kind_of_touched (is_within q p) (t q)

listing_by : (c : Content) (number : Option ℕ) (node : Node) → c ≡ node.content
    → is_directory_place (Some (place_of number (row_of (record node { content = c })))) ≡ true
    → (entries : List (List ℕ × ℕ)) × (node.content ≡ Listing entries)
listing_by (Text text) number node e h = let bad : false ≡ true = h in cc
listing_by (Listing entries) number node e h = (entries, sym e)

listing_from : (nodes : List Node) (n : ℕ) (number : Option ℕ) (o : Option Node) → slice_get nodes n ≡ o
    → is_directory_place (option_map (place_of number) (option_map row_of o)) ≡ true → IsListing nodes n
listing_from nodes n number None e h = let bad : false ≡ true = h in cc
listing_from nodes n number (Some node) e h = let l = listing_by node.content number node refl h in (node, l.0, e, l.1)

-- a place that is a directory is that of a directory
pub listing_at : (base : ℕ) (nodes : List Node) (root n : ℕ) (q : Path) → walk (rows nodes) root q ≡ Some n
    → is_directory_place (tree_in base nodes root q) ≡ true → IsListing nodes n
listing_at base nodes root n q here h =
    listing_from nodes n (cond (nat_lt n base) (Some n) None) (slice_get nodes n) refl
    (sym (ap (λ o. is_directory_place (option_and_then (place_at (rows nodes) base) o)) here) ∙ h)

pub child_present : (base : ℕ) (nodes : List Node) (root n : ℕ) (p : Path) (name : List ℕ) → walk (rows nodes) root p ≡ Some n
    → is_some (tree_in base nodes root (p ++ name ∷ [])) ≡ true → IsSome (child_in (rows nodes n) name)
child_present base nodes root n p name here h =
    let walked : is_some (walk (rows nodes) root (p ++ name ∷ [])) ≡ true = some_from_and_then (place_at (rows nodes) base) _ h in
    let step : is_some (walk (rows nodes) n (name ∷ [])) ≡ true = sym (ap is_some (walk_on (rows nodes) root n p (name ∷ []) here))
    ∙ walked in
    (some_from_and_then (λ m. walk (rows nodes) m []) (child_in (rows nodes n) name) step)

-- one more name of the way
module _ (base : ℕ) (old between : List Node) (root at : ℕ) (names : Path) (i : ℕ) (name : List ℕ)
    (way : IsWay (tree_in base old root) names) (thawed : IsThawed base old between root root (take i names) at)
    (below : i < length names) (name_is : name ≡ get_or names i name) where
  longer : take (i + 1) names ≡ take i names ++ name ∷ []
  longer = take_more names i name below ∙ ap (λ x. take i names ++ x ∷ []) (sym name_is)

  pub way_listing : IsListing between at
  way_listing = listing_at base between root at (take i names) thawed.here (ap is_directory_place (thawed.tree (take i names))
      ∙ is_directory_place-touch (tree_in base old root) (take i names) (take i names) ∙ way.directories i below)

  pub way_child : IsSome (child_in (rows between at) name)
  way_child =
      child_present base between root at (take i names) name thawed.here
      (ap is_some (thawed.tree (take i names ++ name ∷ []))
      ∙ is_some-touch (tree_in base old root) (take i names) (take i names ++ name ∷ [])
      ∙ ap (λ q. is_some (tree_in base old root q)) (sym longer) ∙ way.present (i + 1) (omega arith))

  pub way_more : (new : List Node) (result : ℕ) → ThawsChild base between new at name result
      → IsThawed base old new root root (take (i + 1) names) result
  way_more new result thaws = rw longer (thaw_more base old between new root root at (take i names) name result thawed thaws)
