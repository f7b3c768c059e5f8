-- The texts that are known: one more, and those of rows and of a copy.
use Rattle.std.proofs.Common.{◌≡◌, ℕ, zero, suc, Bool, true, false, ◌||◌, List, [], ◌∷◌, ◌<◌, ◌+◌, length, get_or, take, drop, refl, sym, ◌∙◌, ap, subst, arith, true≢false}
use Rattle.std.specs.Prelude.{bytes_eq, cond, Option, Some, None, Result, Ok, Err, OnOk}
use Rattle.std.specs.List.{list_any}
use Rattle.std.specs.BTreeSet.{BTreeSet, contains}
use Rattle.std.specs.BTreeMap.{is_at}
use Rattle.std.specs.Cmp.Lexicographic.{bytes_decides}
use Rattle.std.proofs.lemmas.List.{drop_more}
use Rattle.svn_types.specs.Names.{Path, name_cmp, path_cmp}
use Rattle.svn_types.proofs.NameLemmas.{Name, at_name}
use Rattle.svn_types.proofs.PathsInOrder.{at_path}
use Rattle.svn_model.specs.declared.base_node.BaseNode.{BaseNode}
use Rattle.svn_model.specs.Nodes.{get_in}
use Rattle.svn_wcdb.specs.declared.table.TableRow.{TableRow}
use Rattle.svn_disk.specs.Plans.{text_of_node}
use Rattle.svn_disk.specs.Spared.{is_that, has_text, texts_in, texts_of}
use Rattle.svn_disk.proofs.Moving.{same_name}

-- ---- one more

pub or_last : (a b : Bool) → b ≡ true → (a || b) ≡ true
or_last true b h = refl
or_last false b h = h

flip : (a b : List ℕ) → bytes_eq a b ≡ true → bytes_eq b a ≡ true
flip a b h = ap (λ (x : List ℕ). bytes_eq b x) ((bytes_decides a b).0 h) ∙ same_name b

pub word_in : (old new : BTreeSet (List ℕ)) (w s t : List ℕ) → w ≡ s → contains name_cmp new t ≡ cond (is_at (name_cmp w) t) true (contains name_cmp old t)
    → contains name_cmp new t ≡ true → (bytes_eq t s || contains name_cmp old t) ≡ true
word_in old new w s t same h is = by (bytes_eq w t) refl
  where
    by : (b : Bool) → bytes_eq w t ≡ b → (bytes_eq t s || contains name_cmp old t) ≡ true
    by true e = ap (λ x. x || contains name_cmp old t) (ap (bytes_eq t) (sym same) ∙ flip w t e)
    by false e =
        or_last (bytes_eq t s) (contains name_cmp old t)
        (sym (h ∙ ap (λ b. cond b true (contains name_cmp old t)) (at_name w t ∙ e)) ∙ is)

pub or_first : (a b : Bool) → a ≡ true → (a || b) ≡ true
or_first true b h = refl
or_first false b h = absurd (true≢false (sym h))

pub on_ok : {T : Type 0} → {E : Type 0} → (A B : Type 0) (result : Result T E) → (A → B) → OnOk result A → OnOk result B
on_ok A B (Ok value) f h = f h
on_ok A B (Err fault) f h = tt

pub either_way : (a b c : Bool) → (a ≡ true → b ≡ true) → (a || c) ≡ true → (b || c) ≡ true
either_way true b c f h = ap (λ x. x || c) (f refl)
either_way false b c f h = or_last b c h

-- one way or the other
pub way : (P : Type 0) (a b : Bool) → (a ≡ true → P) → (b ≡ true → P) → (a || b) ≡ true → P
way P true b f g h = f refl
way P false b f g h = g h

-- ---- of rows

pub row_text : (row : TableRow) (rows : List TableRow) (i : ℕ) (t : List ℕ) → i < length rows → row ≡ get_or rows i row → has_text row t ≡ true
    → texts_in rows t ≡ true
row_text row [] i t below is has = absurd (omega arith)
row_text row (first ∷ rows) zero t below is has = ap (λ b. b || texts_in rows t) (ap (λ (r : TableRow). has_text r t) (sym is) ∙ has)
row_text row (first ∷ rows) (suc i) t below is has = or_last (has_text first t) (texts_in rows t) (row_text row rows i t (omega arith) is has)

-- ---- of a copy

pub node_text : (copy : List (Path × BaseNode)) (p : Path) (node : BaseNode) (name t : List ℕ) → get_in copy p ≡ Some node → text_of_node node ≡ Some name
    → bytes_eq t name ≡ true → texts_of copy t ≡ true
node_text [] p node name t found text same = absurd cc
node_text (entry ∷ copy) p node name t found text same =
    at_entry (is_at (path_cmp p) entry.0) refl (λ rest. node_text copy p node name t rest text same)
  where
    at_entry : (b : Bool) → is_at (path_cmp p) entry.0 ≡ b → (get_in copy p ≡ Some node → texts_of copy t ≡ true) → texts_of (entry ∷ copy) t ≡ true
    at_entry true e rest =
        let here : Some entry.1 ≡ Some node = sym (ap (λ b. cond b (Some entry.1) (get_in copy p)) e) ∙ found in
        let one : entry.1 ≡ node = cc in
        ap (λ b. b || texts_of copy t) (ap (λ (n : BaseNode). is_that t (text_of_node n)) one ∙ ap (is_that t) text ∙ same)
    at_entry false e rest =
        or_last (is_that t (text_of_node entry.1)) (texts_of copy t) (rest (sym (ap (λ b. cond b (Some entry.1) (get_in copy p)) e) ∙ found))
