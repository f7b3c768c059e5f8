-- The order of the keys of paths is the order of the paths.
use Rattle.std.proofs.Common.{◌≡◌, ◌≢◌, ℕ, ◌+◌, length, take, drop, Bool, true, false, ◌&&◌, List, [], ◌∷◌, ◌++◌, refl, ap, sym, ◌∙◌, arith}
use Rattle.std.proofs.Common.{nat_eq}
use Rattle.std.proofs.Common.{Option, Some, None, append_assoc, MatchOption, ◌↔◌}
use Rattle.std.specs.declared.cmp.Ordering.TheVariants.{Less, Greater}
use Rattle.std.specs.Ordering.{ordering_then, nat_cmp, is_eq}
use Rattle.std.specs.Cmp.Lexicographic.{pointwise, pointwise_decides, bytes_decides, slice_cmp, texts_ties, lists_ties}
use Rattle.std.specs.List.{list_all}
use Rattle.std.proofs.lemmas.List.Folds.{list_all-append}
use Rattle.std.proofs.Math.Seq.{take-add, drop-append_seam}
use Rattle.std.proofs.lemmas.List.{append_cancel_left, length-append, take-append-drop}
use Rattle.std.proofs.lemmas.Bool.{and_parts}
use denote.Ref.{Bor}
use Rattle.std.specs.Str.Pattern.{FindsTextPrefix, StripsPrefix}
use Rattle.std.specs.Prelude.{bytes_eq, is_some}
use Rattle.std.specs.Option.{option_or}
use Rattle.svn_lists.proofs.Equality.{bytes_eq-same}
use Rattle.svn_lists.proofs.Orderings.{ordering_then-assoc}
use Rattle.svn_types.specs.Names.{Path, is_plain, IsName}
use Rattle.svn_types.specs.NameFaults.{name_fault, names_fault}
use Rattle.svn_types.specs.declared.fault.PathFault.{PathFault}
use Rattle.svn_types.specs.PathKeys.{path_key, is_plain_name, is_plain_path}
use Rattle.svn_types.specs.Paths.{is_within}
use Rattle.svn_types.proofs.PathLemmas.{split_within}

-- a plain byte is greater than 1
below_plain : (b : ℕ) (rest : Bool) → (is_plain b && rest) ≡ true → nat_cmp 1 b ≡ Less
below_plain b rest h = grind (arith, h)

above_plain : (b : ℕ) (rest : Bool) → (is_plain b && rest) ≡ true → nat_cmp b 1 ≡ Greater
above_plain b rest h = grind (arith, h)

-- two names and what is after them
names_order : (m n s t : List ℕ) → list_all is_plain m ≡ true → list_all is_plain n ≡ true
    → slice_cmp nat_cmp (m ++ 1 ∷ s) (n ++ 1 ∷ t) ≡ ordering_then (slice_cmp nat_cmp m n) (slice_cmp nat_cmp s t)
names_order [] [] s t hm hn = refl
names_order [] (b ∷ n) s t hm hn = ap (λ o. ordering_then o (slice_cmp nat_cmp s (n ++ 1 ∷ t))) (below_plain b _ hn)
names_order (a ∷ m) [] s t hm hn = ap (λ o. ordering_then o (slice_cmp nat_cmp (m ++ 1 ∷ s) t)) (above_plain a _ hm)
names_order (a ∷ m) (b ∷ n) s t hm hn =
    ap (ordering_then (nat_cmp a b)) (names_order m n s t (and_parts _ _ hm).1 (and_parts _ _ hn).1)
    ∙ ordering_then-assoc (nat_cmp a b) (slice_cmp nat_cmp m n) (slice_cmp nat_cmp s t)

root_first : (n s : List ℕ) → slice_cmp nat_cmp [] (n ++ 1 ∷ s) ≡ Less
root_first [] s = refl
root_first (b ∷ n) s = refl

root_second : (n s : List ℕ) → slice_cmp nat_cmp (n ++ 1 ∷ s) [] ≡ Greater
root_second [] s = refl
root_second (b ∷ n) s = refl

pub key_order : (p q : Path) → is_plain_path p ≡ true → is_plain_path q ≡ true
    → slice_cmp nat_cmp (path_key p) (path_key q) ≡ slice_cmp (slice_cmp nat_cmp) p q
key_order [] [] hp hq = refl
key_order [] (n ∷ q) hp hq = root_first n (path_key q)
key_order (m ∷ p) [] hp hq = root_second m (path_key p)
key_order (m ∷ p) (n ∷ q) hp hq =
    names_order m n (path_key p) (path_key q) (and_parts _ _ (and_parts _ _ hp).0).1 (and_parts _ _ (and_parts _ _ hq).0).1
    ∙ ap (ordering_then (slice_cmp nat_cmp m n)) (key_order p q (and_parts _ _ hp).1 (and_parts _ _ hq).1)

pub key_equality : (p q : Path) → is_plain_path p ≡ true → is_plain_path q ≡ true
    → pointwise nat_eq (path_key p) (path_key q) ≡ pointwise (pointwise nat_eq) p q
key_equality p q hp hq =
    texts_ties (path_key p) (path_key q) ∙ ap is_eq (key_order p q hp hq) ∙ sym (lists_ties (slice_cmp nat_cmp) texts_ties p q)

-- one name more
pub path_key-child : (p : Path) (n : List ℕ) → path_key (p ++ n ∷ []) ≡ path_key p ++ n ++ 1 ∷ []
path_key-child [] n = refl
path_key-child (m ∷ p) n =
    ap (λ s. m ++ 1 ∷ s) (path_key-child p n ∙ append_assoc (path_key p) n (1 ∷ []))
    ∙ sym (append_assoc m (1 ∷ path_key p) (n ++ 1 ∷ []))
    ∙ sym (append_assoc (m ++ 1 ∷ path_key p) n (1 ∷ []))

pub path_key-append : (p r : Path) → path_key (p ++ r) ≡ path_key p ++ path_key r
path_key-append [] r = refl
path_key-append (n ∷ p) r = ap (λ s. n ++ 1 ∷ s) (path_key-append p r) ∙ sym (append_assoc n (1 ∷ path_key p) (path_key r))

-- names without a fault are plain
plain_name : (n : List ℕ) → name_fault n ≡ None → is_plain_name n ≡ true
plain_name [] h = grind (arith, h)
plain_name (b ∷ n) h = grind (arith, h)

plain_names : (n : List ℕ) (p : Path) (f : Option PathFault) → f ≡ name_fault n → option_or f (names_fault p) ≡ None
    → (names_fault p ≡ None → is_plain_path p ≡ true) → is_plain_path (n ∷ p) ≡ true
plain_names n p None e h rest = rw (plain_name n (sym e)) (rest h)
plain_names n p (Some f) e h rest = grind (arith, h)

pub plain_without_fault : (p : Path) → names_fault p ≡ None → is_plain_path p ≡ true
plain_without_fault [] h = refl
plain_without_fault (n ∷ p) h = plain_names n p (name_fault n) refl h (plain_without_fault p)

named : (n : List ℕ) → IsName n → is_plain_name n ≡ true
named n name = grind (arith, name.not_empty, name.plain)

pub plain_child : (p : Path) (n : List ℕ) → is_plain_path p ≡ true → IsName n → is_plain_path (p ++ n ∷ []) ≡ true
plain_child p n h name = list_all-append is_plain_name p (n ∷ []) ∙ (λ i. h i && (named n name i && true))

-- ---- a path with one name more

pub key_decides : (p q : Path) → is_plain_path p ≡ true → is_plain_path q ≡ true → path_key p ≡ path_key q → p ≡ q
key_decides p q hp hq e =
    (pointwise_decides bytes_decides p q).0 (sym (key_equality p q hp hq) ∙ (bytes_decides (path_key p) (path_key q)).1 e)

pub key_child : (below p : Path) (n : List ℕ) → is_plain_path below ≡ true → is_plain_path p ≡ true → IsName n
    → (path_key below ≡ path_key p ++ n ++ 1 ∷ []) ↔ (below ≡ p ++ n ∷ [])
key_child below p n hb hp name = (
  λ e. key_decides below (p ++ n ∷ []) hb (plain_child p n hp name) (e ∙ sym (path_key-child p n)),
  λ e. ap path_key e ∙ path_key-child p n,
)

-- what `strip_prefix` says
pub stripped : (s p : List ℕ) (r : Option (Bor (List ℕ)))
    → MatchOption r (FindsTextPrefix p s None) (λ x. StripsPrefix (FindsTextPrefix p) s x.now)
    → MatchOption r ((rest : List ℕ) → s ≡ p ++ rest → ⊥) (λ x. s ≡ p ++ x.now)
stripped s p None h = h
stripped s p (Some x) h = h.1.1 ∙ ap (λ (l : List ℕ). p ++ l) (sym h.2)

pub not_more : (key above below last : List ℕ) → key ≡ above ++ below → ((rest : List ℕ) → below ≡ last ++ rest → ⊥)
    → key ≡ above ++ last ++ 1 ∷ [] → ⊥
not_more key above below last hk not e =
    not (1 ∷ []) (append_cancel_left above below (last ++ 1 ∷ []) (sym hk ∙ e ∙ append_assoc above last (1 ∷ [])))

-- ---- a path within another

not_one : (b : ℕ) (rest : Bool) → (is_plain b && rest) ≡ true → 1 ≢ b
not_one b rest h e = grind (arith, h, e)

-- where a name ends is seen by the byte after it
names_end : (m n s t : List ℕ) → list_all is_plain m ≡ true → list_all is_plain n ≡ true → m ++ 1 ∷ s ≡ n ++ 1 ∷ t → (m ≡ n) × (s ≡ t)
names_end [] [] s t hm hn e = (refl, cc)
names_end [] (b ∷ n) s t hm hn e = absurd (not_one b _ hn cc)
names_end (a ∷ m) [] s t hm hn e = absurd (not_one a _ hm cc)
names_end (a ∷ m) (b ∷ n) s t hm hn e =
    let first : a ≡ b = cc in
    let rest = names_end m n s t (and_parts _ _ hm).1 (and_parts _ _ hn).1 cc in
    ((λ i. first i ∷ rest.0 i), rest.1)

no_front : (n s : List ℕ) → [] ≢ n ++ 1 ∷ s
no_front [] s e = cc
no_front (b ∷ n) s e = cc

key_within : (p q : Path) → is_plain_path p ≡ true → is_plain_path q ≡ true → (rest : List ℕ) → path_key q ≡ path_key p ++ rest
    → is_within p q ≡ true
key_within [] q hp hq rest e = refl
key_within (m ∷ p) [] hp hq rest e = absurd (no_front m (path_key p ++ rest) (e ∙ append_assoc m (1 ∷ path_key p) rest))
key_within (m ∷ p) (n ∷ q) hp hq rest e =
    let parts = names_end n m (path_key q) (path_key p ++ rest) (and_parts _ _ (and_parts _ _ hq).0).1 (and_parts _ _ (and_parts _ _ hp).0).1
    (e ∙ append_assoc m (1 ∷ path_key p) rest) in
    (λ i. bytes_eq (sym parts.0 i) n && is_within p q) ∙ ap (λ b. b && is_within p q) (bytes_eq-same n)
    ∙ key_within p q (and_parts _ _ hp).1 (and_parts _ _ hq).1 rest parts.1

within_key : (p q : Path) → is_within p q ≡ true → (rest : List ℕ) × (path_key q ≡ path_key p ++ rest)
within_key p q w =
    let split = split_within p q w in
    (path_key split.0, ap path_key split.1 ∙ path_key-append p split.0)

-- what is after the key above in the key below says whether the path is within
pub within_by_keys : (p q : Path) → is_plain_path p ≡ true → is_plain_path q ≡ true → (r : Option (Bor (List ℕ)))
    → MatchOption r ((rest : List ℕ) → path_key q ≡ path_key p ++ rest → ⊥) (λ x. path_key q ≡ path_key p ++ x.now) → is_some r ≡ is_within p q
within_by_keys p q hp hq (Some x) h = sym (key_within p q hp hq x.now h)
within_by_keys p q hp hq None h = by (is_within p q) (within_key p q)
  where
    by : (b : Bool) → (b ≡ true → (rest : List ℕ) × (path_key q ≡ path_key p ++ rest)) → false ≡ b
    by false w = refl
    by true w = absurd (h (w refl).0 (w refl).1)

pub plain_append : (p q : Path) → is_plain_path p ≡ true → is_plain_path q ≡ true → is_plain_path (p ++ q) ≡ true
plain_append p q hp hq = list_all-append is_plain_name p q ∙ (λ i. hp i && hq i)

-- ---- a path without its first names

-- the key without that many bytes as those names have
pub key_cut : (k : ℕ) (p : Path) → drop (length (path_key (take k p))) (path_key p) ≡ path_key (drop k p)
key_cut k p =
    ap (drop (length (path_key (take k p)))) (ap path_key (sym (take-append-drop k p)) ∙ path_key-append (take k p) (drop k p))
    ∙ drop-append_seam (path_key (take k p)) (path_key (drop k p))

pub plain_cut : (k : ℕ) (p : Path) → is_plain_path p ≡ true → is_plain_path (drop k p) ≡ true
plain_cut k p h =
    (and_parts _ _ (sym (list_all-append is_plain_name (take k p) (drop k p)) ∙ ap is_plain_path (take-append-drop k p) ∙ h)).1

-- the bytes of a key up to a place, and of some names after it
pub key_further : (j k : ℕ) (p : Path)
    → length (path_key (take j p)) + length (path_key (take k (drop j p))) ≡ length (path_key (take (j + k) p))
key_further j k p =
    sym (length-append (path_key (take j p)) (path_key (take k (drop j p))))
    ∙ ap length (sym (path_key-append (take j p) (take k (drop j p))))
    ∙ ap (λ (q : Path). length (path_key q)) (sym (take-add j k p))
