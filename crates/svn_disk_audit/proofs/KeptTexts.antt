-- Texts that are read to their end, and kept.
use Rattle.std.proofs.Common.{◌≡◌, ◌≢◌, ℕ, ◌+◌, ◌<◌, Bool, true, false, cond, List, [], ◌∷◌, ◌++◌, length, take, Option, Some, None, Result, Ok, Err, refl, sym, ap, subst, ◌∙◌, append-nil, length-append, arith}
use Rattle.std.specs.Prelude.{All, bytes_eq}
use Rattle.std.specs.List.{AllZip, list_any}
use Rattle.std.specs.BTreeMap.{is_at, insert_entry}
use Rattle.std.specs.Map.{lookup}
use Rattle.std.specs.declared.cmp.Ordering.{Ordering}
use Rattle.std.specs.declared.cmp.Ordering.TheVariants.{Less, Equal, Greater}
use Rattle.std.specs.Ordering.{nat_cmp, is_eq, match_ordering}
use Rattle.std.proofs.lemmas.List.Elements.{All-nil, All-cons, All-head, All-tail}
use Rattle.std.specs.Cmp.Lexicographic.{slice_cmp, bytes_decides}
use Rattle.std.specs.Io.KnownBytes.{Consumes, IsAtEnd, ReadConsumes}
use Rattle.std.proofs.KnownBytes.{Consumes-trans, Consumes-kept}
use Rattle.std.proofs.lemmas.List.Folds.{Any-from_list_any}
use Rattle.std.proofs.lemmas.Map.Text.{is_eq-slice_cmp}
use Rattle.svn_types.specs.Names.{Path}
use Rattle.svn_model.specs.declared.base_node.BaseNode.{BaseNode}
use Rattle.svn_model.specs.declared.base_node.BaseNode.TheVariants.{File as FileNode, Dir as DirNode, NotPresent}
use Rattle.svn_dump.specs.declared.sections.Texts.{Texts}
use Rattle.svn_dump.specs.declared.sections.Texts.TheVariants.{Sha1}
use Rattle.svn_disk_audit.specs.Pristine.{Store, IsKnownAs, IsKeptAs, AreKeptAs, StandInsStay}

-- ---- reading

read_of : {E : Type 0} (old new : Option (List ℕ)) (r : Result ℕ E) (n : ℕ) (buf : List ℕ) → ReadConsumes old new r buf → r ≡ Ok n
    → Consumes old new (take n buf) × (n ≡ 0 → 0 < length buf → IsAtEnd new)
read_of old new r n buf h is = subst (λ x. ReadConsumes old new x buf) is h

-- one more piece was read
pub read_more : {E : Type 0} (old mid new : Option (List ℕ)) (r : Result ℕ E) (n : ℕ) (front buf read : List ℕ) → Consumes old mid front
    → ReadConsumes mid new r buf → r ≡ Ok n → read ≡ take n buf → Consumes old new (front ++ read)
read_more old mid new r n front buf read taken h is same =
    subst (λ (l : List ℕ). Consumes old new (front ++ l)) (sym same) (Consumes-trans old mid new front (take n buf) taken (read_of mid new r n buf h is).0)

-- a read failed
pub read_none : {E : Type 0} (old mid new : Option (List ℕ)) (r : Result ℕ E) (e : E) (front buf : List ℕ) → Consumes old mid front
    → ReadConsumes mid new r buf → r ≡ Err e → Consumes old new front
read_none old mid new r e front buf taken h is = Consumes-kept old mid new front taken (subst (λ x. ReadConsumes mid new x buf) is h)

ended : (old mid new : Option (List ℕ)) (front : List ℕ) → Consumes old mid front → Consumes mid new [] → IsAtEnd new → IsKnownAs old front
ended None mid new front h none end = tt
ended (Some xs) None new front h none end = absurd h
ended (Some xs) (Some ys) None front h none end = absurd none
ended (Some xs) (Some ys) (Some zs) front h none end = h ∙ ap (λ (l : List ℕ). front ++ l) (none ∙ end) ∙ append-nil front

-- there was no more: what was read is all that there was
pub read_all : {E : Type 0} (old mid new : Option (List ℕ)) (r : Result ℕ E) (n : ℕ) (front buf : List ℕ) → Consumes old mid front
    → ReadConsumes mid new r buf → r ≡ Ok n → n ≡ 0 → 0 < length buf → IsKnownAs old front
read_all old mid new r n front buf taken h is zero room =
    let read = read_of mid new r n buf h is in
    ended old mid new front taken (subst (λ m. Consumes mid new (take m buf)) zero read.0) (read.1 zero room)

-- a text that has a piece with a byte isn't empty
pub not_empty : (front piece : List ℕ) → length piece ≢ 0 → front ++ piece ≢ []
not_empty front piece some none =
    let all : length front + length piece ≡ 0 = sym (length-append front piece) ∙ ap (λ (l : List ℕ). length l) none in
    some (omega (arith, all))

-- ---- names

-- what holds of all names holds of one that is found
pub found_name : {K : Type 0} (items : K → List ℕ) (P : List ℕ → Type 0) (name : List ℕ) (keys : List K)
    → list_any (is_at (λ k. slice_cmp nat_cmp name (items k))) keys ≡ true → All (λ k. P (items k)) keys → P name
found_name items P name keys found all =
    let at = Any-from_list_any (is_at (λ k. slice_cmp nat_cmp name (items k))) keys found in
    let test : bytes_eq name (items at.1) ≡ true = sym (is_eq-slice_cmp name (items at.1)) ∙ at.4 in
    let same : name ≡ items at.1 = (bytes_decides name (items at.1)).0 test in
    subst P (sym same) (subst (λ k. P (items k)) at.3 (all at.0 at.1 at.2))

-- what holds of all words holds of one that is found
pub found_word : {K X : Type 0} (items : K → List ℕ) (P : List ℕ → X → Type 0) (name : List ℕ) (word : X) (entries : List (K × X))
    → lookup (is_at (λ k. slice_cmp nat_cmp name (items k))) entries ≡ Some word → All (λ e. P (items e.0) e.1) entries → P name word
found_word items P name word [] found all = absurd (cc)
found_word {K} {X} items P name word (e ∷ es) found all =
    by (is_at (λ k. slice_cmp nat_cmp name (items k)) e.0) refl found
    (λ h. found_word items P name word es h (All-tail (λ e. P (items e.0) e.1) e es all))
  where
    by : (b : Bool) → is_at (λ k. slice_cmp nat_cmp name (items k)) e.0 ≡ b
        → cond b (Some e.1) (lookup (is_at (λ k. slice_cmp nat_cmp name (items k))) es) ≡ Some word
        → (lookup (is_at (λ k. slice_cmp nat_cmp name (items k))) es ≡ Some word → P name word) → P name word
    by true test h later =
        let same : name ≡ items e.0 = (bytes_decides name (items e.0)).0 (sym (is_eq-slice_cmp name (items e.0)) ∙ test) in
        let is : e.1 ≡ word = cc in
        subst (λ (w : X). P name w) is (subst (λ (n : List ℕ). P n e.1) (sym same) (All-head (λ e. P (items e.0) e.1) e es all))
    by false test h later = later h

-- one more word is known
pub words_more : {K X : Type 0} (items : K → List ℕ) (P : List ℕ → X → Type 0) (k : K) (word : X) (entries : List (K × X))
    → All (λ e. P (items e.0) e.1) entries → P (items k) word
    → All (λ e. P (items e.0) e.1) (insert_entry (λ x y. slice_cmp nat_cmp (items x) (items y)) entries k word)
words_more items P k word [] all p = All-cons (λ e. P (items e.0) e.1) (k, word) [] p (All-nil (λ e. P (items e.0) e.1))
words_more {K} {X} items P k word (e ∷ es) all p =
    by (slice_cmp nat_cmp (items k) (items e.0)) refl (words_more items P k word es (All-tail (λ e. P (items e.0) e.1) e es all) p)
  where
    by : (r : Ordering) → slice_cmp nat_cmp (items k) (items e.0) ≡ r
        → All (λ e. P (items e.0) e.1) (insert_entry (λ x y. slice_cmp nat_cmp (items x) (items y)) es k word)
        → All (λ e. P (items e.0) e.1) (match_ordering r ((k, word) ∷ e ∷ es) ((e.0, word) ∷ es)
        (e ∷ insert_entry (λ x y. slice_cmp nat_cmp (items x) (items y)) es k word))
    by Less order later = All-cons (λ e. P (items e.0) e.1) (k, word) (e ∷ es) p all
    by Equal order later =
        let same : items k ≡ items e.0 =
        (bytes_decides (items k) (items e.0)).0 (sym (is_eq-slice_cmp (items k) (items e.0)) ∙ ap is_eq order) in
        All-cons (λ e. P (items e.0) e.1) (e.0, word) es (subst (λ (n : List ℕ). P n word) same p)
        (All-tail (λ e. P (items e.0) e.1) e es all)
    by Greater order later =
        All-cons (λ e. P (items e.0) e.1) e (insert_entry (λ x y. slice_cmp nat_cmp (items x) (items y)) es k word)
        (All-head (λ e. P (items e.0) e.1) e es all) later

-- ---- nodes

pub nothing_left : {A : Type 0} (xs : List A) → length xs ≡ 0 → xs ≡ []
nothing_left [] none = refl
nothing_left (x ∷ xs) none = absurd (omega arith)

zip_more : {A B : Type 0} (R : A → B → Type 0) (xs : List A) (ys : List B) (x : A) (y : B) → AllZip R xs ys → R x y
    → AllZip R (xs ++ x ∷ []) (ys ++ y ∷ [])
zip_more R [] [] x y h r = (r, tt)
zip_more R [] (b ∷ ys) x y h r = absurd h
zip_more R (a ∷ xs) [] x y h r = absurd h
zip_more R (a ∷ xs) (b ∷ ys) x y h r = (h.0, zip_more R xs ys x y h.1 r)

-- one more node is kept
pub kept_more : (texts now : Texts) (store here : Store) (done kept new : List (Path × BaseNode)) (path : Path) (node kept_node : BaseNode)
    → now ≡ texts → here ≡ store → new ≡ kept ++ (path, kept_node) ∷ [] → AreKeptAs texts store done kept → IsKeptAs now here node kept_node
    → AreKeptAs texts store (done ++ (path, node) ∷ []) new
kept_more texts now store here done kept new path node kept_node t s e all one =
    let same : IsKeptAs texts store node kept_node = subst (λ t. IsKeptAs t store node kept_node) t (subst (λ s. IsKeptAs now s node kept_node) s one) in
    subst (λ (l : List (Path × BaseNode)). AreKeptAs texts store (done ++ (path, node) ∷ []) l) (sym e)
    (zip_more (λ e f. (f.0 ≡ e.0) × IsKeptAs texts store e.1 f.1) done kept (path, node) (path, kept_node) all (refl, same))

same_node : (store : Store) (node kept_node : BaseNode) → IsKeptAs Sha1 store node kept_node → kept_node ≡ node
same_node store (FileNode r q name props) kept_node h = h.2 ∙ ap (λ (t : List ℕ). FileNode r q t props) h.1.named
same_node store (DirNode r q complete props) kept_node h = h
same_node store NotPresent kept_node h = h

pub stand_ins_stay : StandInsStay
stand_ins_stay store [] [] h = refl
stand_ins_stay store [] (f ∷ fs) h = absurd h
stand_ins_stay store (e ∷ es) [] h = absurd h
stand_ins_stay store (e ∷ es) (f ∷ fs) h =
    let node = same_node store e.1 f.1 h.0.1 in
    let rest = stand_ins_stay store es fs h.1 in
    λ i. (h.0.0 i, node i) ∷ rest i
