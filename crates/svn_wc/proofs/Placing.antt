-- Trees of the repository, and what a copy makes of them.
use Rattle.std.proofs.Common.{◌≡◌, ℕ, ◌-◌, Bool, true, false, not, cond, List, [], ◌∷◌, ◌++◌, length, drop, refl, sym, ap, subst, ◌∙◌}
use Rattle.std.proofs.Common.{Option}
use Rattle.std.proofs.Common.{Some, None, true≢false, append_assoc, append-nil}
use Rattle.std.specs.Prelude.{slice_get, option_and_then}
use Rattle.std.specs.Option.{option_map}
use Rattle.std.proofs.Math.Seq.{drop-append_seam}
use Rattle.std.proofs.lemmas.Bool.{not-false}
use Rattle.svn_lists.proofs.Options.{cond_none, some-none}
use Rattle.svn_lists.proofs.Places.{empty_from_no_last}
use Rattle.svn_types.specs.Names.{Path}
use Rattle.svn_types.specs.Paths.{path_eq, is_within, is_below, is_root, parent, last_name}
use Rattle.svn_types.specs.Pairs.{value_of}
use Rattle.svn_types.specs.declared.kind.Kind.{Kind}
use Rattle.svn_types.specs.declared.kind.Kind.TheVariants.{File, Directory}
use Rattle.svn_repo.specs.History.{History, node_at, walk, look}
use Rattle.svn_repo.specs.Readings.{kind_of, entries_of, IsHistory}
use Rattle.svn_model.specs.declared.base_node.BaseNode.{BaseNode}
use Rattle.svn_model.specs.declared.wc_fault.WcFault.{WcFault}
use Rattle.svn_model.specs.declared.wc_fault.WcFault.TheVariants.{Memory}
use Rattle.svn_model.specs.Nodes.{WorkingCopy, base_node, is_dir, IsWorkingCopy}
use Rattle.svn_model.specs.Refusals.{is_file_kind, is_missing_revision, place_fault}
use Rattle.svn_model.specs.Builders.{checkout, placed}
use Rattle.svn_repo.proofs.Walking.{look-append}
use Rattle.svn_model.proofs.Children.{entry_below, look-child}
use Rattle.svn_nodes.specs.Standing.{standing, Puts}
use Rattle.svn_wc.specs.Building.{Refuses, tree_at}
use Rattle.svn_wc.specs.Truths.{entry_in}
use Rattle.law_copy.proofs.CrawlReports.{directory_above}
use Rattle.svn_types.proofs.PathLemmas.{split_within, apart_paths, below_from, path_eq-longer, path_eq-same, within_append}

-- what was gathered is the tree
pub tree_gathered : (h : History) (at q : Path) (rev n : ℕ) (w : WorkingCopy) → Puts (standing h rev q n) at (λ p. None) w
    → look h rev q ≡ Some n → (p : Path) → w p ≡ tree_at h at q rev p
tree_gathered h at q rev n w puts found p = by (is_within at p) refl
  where
    inside : (r : Path) → w (at ++ r) ≡ checkout h q rev r
    inside r =
        puts.inside r
        ∙ ap (option_map (base_node h rev (q ++ r))) (sym (look-append h rev q r ∙ ap (option_and_then (λ m. walk (node_at h) m r)) found))

    by : (b : Bool) → is_within at p ≡ b → w p ≡ cond b (checkout h q rev (drop (length at) p)) None
    by true i =
        let on = split_within at p i in
        ap w on.1 ∙ inside on.0 ∙ ap (checkout h q rev) (sym (ap (drop (length at)) on.1 ∙ drop-append_seam at on.0))
    by false i = puts.outside p i

pub tree_outside : (h : History) (at q : Path) (rev : ℕ) (p : Path) → is_within at p ≡ false → tree_at h at q rev p ≡ None
tree_outside h at q rev p out = ap (λ b. cond b (checkout h q rev (drop (length at) p)) None) out

-- the tree in the place of what was there
pub tree_placed : (h : History) (w w' part : WorkingCopy) (at q : Path) (rev : ℕ) → ((p : Path) → part p ≡ tree_at h at q rev p)
    → ((p : Path) → w' p ≡ cond (is_within at p) (part p) (w p)) → (p : Path) → w' p ≡ placed h w at q rev p
tree_placed h w w' part at q rev tree put p = put p ∙ by (is_within at p) refl
  where
    by : (b : Bool) → is_within at p ≡ b → cond b (part p) (w p) ≡ cond b (checkout h q rev (drop (length at) p)) (w p)
    by true i = tree p ∙ ap (λ b. cond b (checkout h q rev (drop (length at) p)) None) i
    by false i = refl

-- ---- a file in the place of what is no directory

-- below a file the repository has nothing
none_below_file : (h : History) (rev : ℕ) (q : Path) (n : ℕ) → look h rev q ≡ Some n → entries_of h n ≡ [] → (name : List ℕ) (r : Path)
    → look h rev (q ++ name ∷ r) ≡ None
none_below_file h rev q n found leaf name r =
    ap (look h rev) (sym (append_assoc q (name ∷ []) r)) ∙ look-append h rev (q ++ name ∷ []) r
    ∙ ap (option_and_then (λ m. walk (node_at h) m r))
    (look-child h rev q name ∙ ap (λ o. entry_below h o name) found ∙ ap (λ es. value_of es name) leaf)

-- and a copy has nothing below what is no directory
none_below_other : (w : WorkingCopy) → IsWorkingCopy w → (at p : Path) → is_dir (w at) ≡ false → is_below at p ≡ true → w p ≡ None
none_below_other w shape at p other below = by (w p) refl
  where
    by : (o : Option BaseNode) → w p ≡ o → o ≡ None
    by None e = refl
    by (Some n) e = absurd (true≢false (sym (directory_above w shape at p below (λ none. some-none n (sym e ∙ none))) ∙ other))

pub file_placed : (h : History) → IsHistory h → (w : WorkingCopy) → IsWorkingCopy w → (at q : Path) (rev n : ℕ) → look h rev q ≡ Some n
    → is_file_kind (kind_of h n) ≡ true → is_dir (w at) ≡ false → (p : Path)
    → cond (path_eq at p) (Some (base_node h rev q n)) (w p) ≡ placed h w at q rev p
file_placed h laws w shape at q rev n found file other p = by (is_within at p) refl
  where
    kind : (k : Kind) → is_file_kind k ≡ true → k ≡ File
    kind File e = refl
    kind Directory e = absurd (true≢false (sym e))

    leaf : entries_of h n ≡ []
    leaf = laws.files_are_leaves rev q n found (kind (kind_of h n) file)

    -- at the path is the file
    here : checkout h q rev [] ≡ Some (base_node h rev q n)
    here =
        ap (λ (s : Path). option_map (base_node h rev s) (look h rev s)) (append-nil q)
        ∙ ap (option_map (base_node h rev q)) found

    inside : (r : Path) → p ≡ at ++ r → cond (path_eq at p) (Some (base_node h rev q n)) (w p) ≡ checkout h q rev r
    inside [] e =
        ap (λ (b : Bool). cond b (Some (base_node h rev q n)) (w p)) (ap (path_eq at) (e ∙ append-nil at) ∙ path_eq-same at) ∙ sym here
    inside (name ∷ r) e =
        let apart : path_eq at p ≡ false = ap (path_eq at) e ∙ path_eq-longer at name r in
        let below : is_below at p ≡ true = below_from at p (ap (is_within at) e ∙ within_append at (name ∷ r)) apart in
        ap (λ (b : Bool). cond b (Some (base_node h rev q n)) (w p)) apart ∙ none_below_other w shape at p other below
        ∙ sym (ap (option_map (base_node h rev (q ++ name ∷ r))) (none_below_file h rev q n found leaf name r))

    by : (b : Bool) → is_within at p ≡ b
        → cond (path_eq at p) (Some (base_node h rev q n)) (w p) ≡ cond b (checkout h q rev (drop (length at) p)) (w p)
    by true i =
        let on = split_within at p i in
        inside on.0 on.1 ∙ ap (checkout h q rev) (sym (ap (drop (length at)) on.1 ∙ drop-append_seam at on.0))
    by false i = ap (λ (b : Bool). cond b (Some (base_node h rev q n)) (w p)) (apart_paths at p i)

-- ---- where a tree may be placed

pub may_place : (h : History) (w : WorkingCopy) (at : Path) (rev : ℕ) → place_fault h w at rev ≡ None
    → (is_root at ≡ false) × (is_dir (w (parent at)) ≡ true)
may_place h w at rev f =
    let one = cond_none (is_root at) _ _ f in
    let two = cond_none (is_missing_revision h rev) _ _ one.1 in
    let three = cond_none (not (is_dir (w (parent at)))) _ _ two.1 in
    (one.0, not-false (is_dir (w (parent at))) three.0)

-- ---- results

pub refuses_fault : (o : Option WcFault) (e : WcFault) → o ≡ Some e → Refuses o e
refuses_fault o e is = subst (λ (u : Option WcFault). Refuses u e) (sym is) refl

pub refuses_memory : (o : Option WcFault) (e : WcFault) → o ≡ None → e ≡ Memory → Refuses o e
refuses_memory o e is memory = subst (λ (u : Option WcFault). Refuses u e) (sym is) memory

-- ---- the last name of a path

pub last_none : (p : Path) → None ≡ slice_get p (length p - 1) → last_name p ≡ []
last_none p h = ap last_name (empty_from_no_last p (sym h))

pub entry_is_below : (h : History) (o : Option ℕ) (name : List ℕ) → entry_in h o name ≡ entry_below h o name
entry_is_below h None name = refl
entry_is_below h (Some n) name = refl

pub look_named : (h : History) (rev : ℕ) (q : Path) (name : List ℕ) → entry_in h (look h rev q) name ≡ look h rev (q ++ name ∷ [])
look_named h rev q name = entry_is_below h (look h rev q) name ∙ sym (look-child h rev q name)
