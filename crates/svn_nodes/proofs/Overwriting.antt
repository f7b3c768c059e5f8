-- A part is put over nodes that are at all its paths, in one pass over them.
use Rattle.std.proofs.Common.{◌≡◌, Bool, true, false, cond, List, [], ◌∷◌, refl, sym, ◌∙◌, ap, true≢false}
use Rattle.std.specs.Prelude.{Option, Some, None, is_some, unwrap_or}
use Rattle.std.specs.Map.Calls.{RetainsPairs}
use Rattle.std.specs.Option.{option_or}
use Rattle.std.specs.declared.cmp.Ordering.TheVariants.{Less}
use Rattle.svn_types.specs.Names.{Path, path_cmp}
use Rattle.svn_types.specs.Paths.{path_eq}
use Rattle.svn_types.proofs.PathLemmas.{same_path, path_eq-symm}
use Rattle.svn_types.proofs.PathsInOrder.{not_before_itself, not_both}
use Rattle.svn_model.specs.declared.base_node.BaseNode.{BaseNode}
use Rattle.svn_model.specs.Nodes.{get_in, InPathOrder}
use Rattle.law_copy.proofs.CrawlReports.{present_after}
use Rattle.law_copy.proofs.NodeLists.{get_in-first, found_first, first_before, rest_in_order}
use Rattle.svn_nodes.specs.Overwriting.{next_at, behind_at}

abbrev Nodes : Type 0
Nodes = List (Path × BaseNode)

-- a part's paths are among those of the nodes
abbrev pub StandsIn : Nodes → Nodes → Type 0
StandsIn part es = (q : Path) → is_some (get_in part q) ≡ true → is_some (get_in es q) ≡ true

-- what is in a list and not at its first path is after that
behind : (e : Path × BaseNode) (es : Nodes) (q : Path) → path_eq e.0 q ≡ false → is_some (get_in (e ∷ es) q) ≡ true → is_some (get_in es q) ≡ true
behind e es q apart there = ap (λ (b : Bool). is_some (cond b (Some e.1) (get_in es q))) (sym apart) ∙ ap is_some (sym (get_in-first e es q)) ∙ there

-- and what is after comes after the first path
comes_after : (e : Path × BaseNode) (es : Nodes) → InPathOrder (e ∷ es) → (q : Path) → is_some (get_in es q) ≡ true → path_cmp e.0 q ≡ Less
comes_after e es order q there = by (get_in es q) refl there
  where
    by : (o : Option BaseNode) → get_in es q ≡ o → is_some o ≡ true → path_cmp e.0 q ≡ Less
    by None s t = absurd (true≢false (sym t))
    by (Some n) s t = present_after e.0 es (first_before e es order) q n s

apart_after : (p q : Path) → path_cmp p q ≡ Less → path_eq p q ≡ false
apart_after p q less = by (path_eq p q) refl
  where
    by : (b : Bool) → path_eq p q ≡ b → b ≡ false
    by true s = absurd (not_before_itself p (ap (path_cmp p) (same_path p q s) ∙ less))
    by false s = refl

-- ---- one node, and what is left of a part in order

-- nothing of the part is at the node's path, if its first node is at another
absent_here : (d e : Path × BaseNode) (ds es : Nodes) → InPathOrder (d ∷ ds) → InPathOrder (e ∷ es) → StandsIn (d ∷ ds) (e ∷ es)
    → path_eq d.0 e.0 ≡ false → get_in (d ∷ ds) e.0 ≡ None
absent_here d e ds es parted ordered within apart = by (get_in (d ∷ ds) e.0) refl
  where
    before : path_cmp e.0 d.0 ≡ Less
    before = comes_after e es ordered d.0
        (behind e es d.0 (path_eq-symm e.0 d.0 ∙ apart) (within d.0 (ap is_some (found_first d ds))))

    by : (o : Option BaseNode) → get_in (d ∷ ds) e.0 ≡ o → o ≡ None
    by None s = refl
    by (Some n) s = absurd (not_both e.0 d.0 before (comes_after d ds parted e.0 (behind d ds e.0 apart (ap is_some s))))

behind_in_order : (part : Nodes) (p : Path) → InPathOrder part → InPathOrder (behind_at part p)
behind_in_order [] p order = order
behind_in_order (d ∷ ds) p order = by (path_eq d.0 p)
  where
    by : (b : Bool) → InPathOrder (cond b ds (d ∷ ds))
    by true = rest_in_order d ds order
    by false = order

behind_stands : (part : Nodes) (e : Path × BaseNode) (es : Nodes) → InPathOrder part → InPathOrder (e ∷ es) → StandsIn part (e ∷ es)
    → StandsIn (behind_at part e.0) es
behind_stands [] e es parted ordered within = λ q there. absurd (true≢false (sym there))
behind_stands (d ∷ ds) e es parted ordered within = by (path_eq d.0 e.0) refl
  where
    by : (b : Bool) → path_eq d.0 e.0 ≡ b → StandsIn (cond b ds (d ∷ ds)) es
    by true s q there =
        let less : path_cmp d.0 q ≡ Less = comes_after d ds parted q there in
        let apart : path_eq e.0 q ≡ false = apart_after e.0 q (ap (λ x. path_cmp x q) (sym (same_path d.0 e.0 s)) ∙ less) in
        let both : get_in (d ∷ ds) q ≡ get_in ds q =
        get_in-first d ds q ∙ ap (λ (b : Bool). cond b (Some d.1) (get_in ds q)) (apart_after d.0 q less) in
        behind e es q apart (within q (ap is_some both ∙ there))
    by false s q there = at (path_eq e.0 q) refl
      where
        at : (b : Bool) → path_eq e.0 q ≡ b → is_some (get_in es q) ≡ true
        at true t =
            let none : get_in (d ∷ ds) q ≡ None =
            ap (get_in (d ∷ ds)) (sym (same_path e.0 q t)) ∙ absent_here d e ds es parted ordered within s in
            absurd (true≢false (sym there ∙ ap is_some none))
        at false t = behind e es q t (within q there)

one_more : (part : Nodes) (e : Path × BaseNode) (es : Nodes) → InPathOrder part → InPathOrder (e ∷ es) → StandsIn part (e ∷ es) → (p : Path)
    → cond (path_eq e.0 p) (Some (unwrap_or (next_at part e.0) e.1)) (option_or (get_in (behind_at part e.0) p) (get_in es p))
    ≡ option_or (get_in part p) (cond (path_eq e.0 p) (Some e.1) (get_in es p))
one_more [] e es parted ordered within p = refl
one_more (d ∷ ds) e es parted ordered within p = by (path_eq d.0 e.0) refl (path_eq e.0 p) refl
  where
    first : (b : Bool) → path_eq d.0 e.0 ≡ true → path_eq e.0 p ≡ b → get_in (d ∷ ds) p ≡ cond b (Some d.1) (get_in ds p)
    first b s t =
        get_in-first d ds p ∙ ap (λ (b : Bool). cond b (Some d.1) (get_in ds p)) (ap (λ q. path_eq q p) (same_path d.0 e.0 s) ∙ t)

    by : (a : Bool) → path_eq d.0 e.0 ≡ a → (b : Bool) → path_eq e.0 p ≡ b
        → cond b (Some (unwrap_or (cond a (Some d.1) None) e.1)) (option_or (get_in (cond a ds (d ∷ ds)) p) (get_in es p))
        ≡ option_or (get_in (d ∷ ds) p) (cond b (Some e.1) (get_in es p))
    by true s true t = sym (ap (λ o. option_or o (Some e.1)) (first true s t))
    by true s false t = sym (ap (λ o. option_or o (get_in es p)) (first false s t))
    by false s true t =
        sym (ap (λ o. option_or o (Some e.1))
        (ap (get_in (d ∷ ds)) (sym (same_path e.0 p t)) ∙ absent_here d e ds es parted ordered within s))
    by false s false t = refl

-- ---- all nodes

pub overwritten : {F : Type 0} (T : F → Path → BaseNode → Bool → BaseNode → F → Type 0) (left_of : F → Nodes)
    → ((f : F) (k : Path) (v : BaseNode) (b : Bool) (w : BaseNode) (g : F) → T f k v b w g
    → (b ≡ true) × (w ≡ unwrap_or (next_at (left_of f) k) v) × (left_of g ≡ behind_at (left_of f) k))
    → (f : F) (part es kept : Nodes) → left_of f ≡ part → InPathOrder part → InPathOrder es → StandsIn part es
    → RetainsPairs T f es kept → (p : Path) → get_in kept p ≡ option_or (get_in part p) (get_in es p)
overwritten T left_of each f part [] kept left parted ordered within h p = ap (λ (l : Nodes). get_in l p) h ∙ none (get_in part p) refl
  where
    none : (o : Option BaseNode) → get_in part p ≡ o → None ≡ option_or o None
    none None s = refl
    none (Some n) s = absurd (true≢false (sym (within p (ap is_some s))))
overwritten T left_of each f part (e ∷ es) kept left parted ordered within h p =
    let step = each f e.0 e.1 h.0 h.1 h.2 h.4 in
    let node : h.1 ≡ unwrap_or (next_at part e.0) e.1 = step.1 ∙ ap (λ l. unwrap_or (next_at l e.0) e.1) left in
    ap (λ (l : Nodes). get_in l p) h.6
    ∙ (λ i. get_in (cond (step.0 i) ((e.0, node i) ∷ h.3) h.3) p)
    ∙ get_in-first (e.0, unwrap_or (next_at part e.0) e.1) h.3 p
    ∙ ap (cond (path_eq e.0 p) (Some (unwrap_or (next_at part e.0) e.1)))
    (overwritten T left_of each h.2 (behind_at part e.0) es h.3 (step.2 ∙ ap (λ l. behind_at l e.0) left) (behind_in_order part e.0 parted)
    (rest_in_order e es ordered) (behind_stands part e es parted ordered within) h.5 p)
    ∙ one_more part e es parted ordered within p
    ∙ sym (ap (option_or (get_in part p)) (get_in-first e es p))
