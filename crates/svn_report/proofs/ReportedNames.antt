-- The reported names directly below a path, as a list: that asking for the next name again and again enumerates them.
--     next_listed      the result is the first of the names that come after, and those that are left come after it
--     put_reported      names put into a set one by one, each once or each as often as it is reported
use Rattle.std.proofs.Common.{◌≡◌, Bool, true, false, ◌&&◌, ◌||◌, List, [], ◌∷◌, cond, fold, refl, sym, ◌∙◌, ap, true≢false}
use Rattle.std.proofs.Math.Bool.{or-true}
use Rattle.std.proofs.lemmas.List.Folds.{list_any-append}
use Rattle.std.specs.Prelude.{Option, Some, None, bytes_eq}
use Rattle.std.specs.declared.cmp.Ordering.{Ordering}
use Rattle.std.specs.declared.cmp.Ordering.TheVariants.{Less, Equal, Greater}
use Rattle.std.specs.Ordering.{is_lt, match_ordering}
use Rattle.std.specs.Cmp.Lexicographic.{nat_list_cmp_total}
use Rattle.std.specs.BTreeSet.{insert_key}
use Rattle.svn_lists.proofs.Equality.{bytes_eq-same, bytes_eq-symm, same_bytes}
use Rattle.svn_lists.proofs.Orderings.{less_from_is_lt}
use Rattle.svn_types.specs.Names.{Path, name_cmp}
use Rattle.svn_types.specs.Paths.{is_within, child}
use Rattle.svn_report.specs.Reports.{Entries}
use Rattle.svn_report.specs.ReportNames.{next_name, names_in, reported_names, has_entry_within, ComesAfter, IsNextName, comes_after}
use Rattle.svn_report.specs.ReportNames.{names_after, names_from}
use Rattle.svn_types.proofs.NameLemmas.{Name, same_name, name_cmp-same, reversed}
use Rattle.svn_types.proofs.NameLemmas.{has_name, has_name-fold}

-- ---- into a set, in whatever order

abbrev put : List Name → Name → List Name
put = insert_key name_cmp

put-twice : (xs : List Name) (a : Name) → put (put xs a) a ≡ put xs a
put-twice [] a = ap (λ o. match_ordering o (a ∷ a ∷ []) (a ∷ []) (a ∷ a ∷ [])) (name_cmp-same a)
put-twice (x ∷ xs) a = by (name_cmp a x) refl (put-twice xs a)
  where
    by : (o : Ordering) → name_cmp a x ≡ o → put (put xs a) a ≡ put xs a
        → put (match_ordering o (a ∷ x ∷ xs) (x ∷ xs) (x ∷ put xs a)) a ≡ match_ordering o (a ∷ x ∷ xs) (x ∷ xs) (x ∷ put xs a)
    by Less e ih = ap (λ o. match_ordering o (a ∷ a ∷ x ∷ xs) (a ∷ x ∷ xs) (a ∷ put (x ∷ xs) a)) (name_cmp-same a)
    by Equal e ih = ap (λ o. match_ordering o (a ∷ x ∷ xs) (x ∷ xs) (x ∷ put xs a)) e
    by Greater e ih =
        ap (λ o. match_ordering o (a ∷ x ∷ put xs a) (x ∷ put xs a) (x ∷ put (put xs a) a)) e ∙ ap (λ (l : List Name). x ∷ l) ih

-- of two different names the earlier one
put-ordered : (xs : List Name) (a b : Name) → name_cmp a b ≡ Less → put (put xs a) b ≡ put (put xs b) a
put-ordered [] a b l =
    ap (λ o. match_ordering o (b ∷ a ∷ []) (a ∷ []) (a ∷ b ∷ [])) (reversed a b Less l)
    ∙ sym (ap (λ o. match_ordering o (a ∷ b ∷ []) (b ∷ []) (b ∷ a ∷ [])) l)
put-ordered (x ∷ xs) a b l = by (name_cmp a x) refl (name_cmp b x) refl (put-ordered xs a b l)
  where
    tied_less : Equal ≡ Less → ⊥
    tied_less h = cc

    greater_less : Greater ≡ Less → ⊥
    greater_less h = cc

    before : name_cmp b x ≡ Less → name_cmp a x ≡ Less
    before f = nat_list_cmp_total.trans a b x l f

    by : (o : Ordering) → name_cmp a x ≡ o → (u : Ordering) → name_cmp b x ≡ u → put (put xs a) b ≡ put (put xs b) a
        → put (match_ordering o (a ∷ x ∷ xs) (x ∷ xs) (x ∷ put xs a)) b ≡ put (match_ordering u (b ∷ x ∷ xs) (x ∷ xs) (x ∷ put xs b)) a
    by Less e Less f ih =
        ap (λ o. match_ordering o (b ∷ a ∷ x ∷ xs) (a ∷ x ∷ xs) (a ∷ put (x ∷ xs) b)) (reversed a b Less l)
        ∙ ap (λ o. a ∷ match_ordering o (b ∷ x ∷ xs) (x ∷ xs) (x ∷ put xs b)) f
        ∙ sym (ap (λ o. match_ordering o (a ∷ b ∷ x ∷ xs) (b ∷ x ∷ xs) (b ∷ put (x ∷ xs) a)) l)
    by Less e Equal f ih =
        ap (λ o. match_ordering o (b ∷ a ∷ x ∷ xs) (a ∷ x ∷ xs) (a ∷ put (x ∷ xs) b)) (reversed a b Less l)
        ∙ ap (λ o. a ∷ match_ordering o (b ∷ x ∷ xs) (x ∷ xs) (x ∷ put xs b)) f
        ∙ sym (ap (λ o. match_ordering o (a ∷ x ∷ xs) (x ∷ xs) (x ∷ put xs a)) e)
    by Less e Greater f ih =
        ap (λ o. match_ordering o (b ∷ a ∷ x ∷ xs) (a ∷ x ∷ xs) (a ∷ put (x ∷ xs) b)) (reversed a b Less l)
        ∙ ap (λ o. a ∷ match_ordering o (b ∷ x ∷ xs) (x ∷ xs) (x ∷ put xs b)) f
        ∙ sym (ap (λ o. match_ordering o (a ∷ x ∷ put xs b) (x ∷ put xs b) (x ∷ put (put xs b) a)) e)
    by Equal e Less f ih = absurd (tied_less (sym e ∙ before f))
    by Equal e Equal f ih = absurd (tied_less (sym e ∙ sym (ap (name_cmp a) (same_name b x f)) ∙ l))
    by Equal e Greater f ih =
        ap (λ o. match_ordering o (b ∷ x ∷ xs) (x ∷ xs) (x ∷ put xs b)) f
        ∙ sym (ap (λ o. match_ordering o (a ∷ x ∷ put xs b) (x ∷ put xs b) (x ∷ put (put xs b) a)) e)
    by Greater e Less f ih = absurd (greater_less (sym e ∙ before f))
    by Greater e Equal f ih = absurd (greater_less (sym e ∙ sym (ap (name_cmp a) (same_name b x f)) ∙ l))
    by Greater e Greater f ih =
        ap (λ o. match_ordering o (b ∷ x ∷ put xs a) (x ∷ put xs a) (x ∷ put (put xs a) b)) f
        ∙ ap (λ (z : List Name). x ∷ z) ih
        ∙ sym (ap (λ o. match_ordering o (a ∷ x ∷ put xs b) (x ∷ put xs b) (x ∷ put (put xs b) a)) e)

put-commute : (xs : List Name) (a b : Name) → put (put xs a) b ≡ put (put xs b) a
put-commute xs a b = by (name_cmp a b) refl
  where
    by : (o : Ordering) → name_cmp a b ≡ o → put (put xs a) b ≡ put (put xs b) a
    by Less e = put-ordered xs a b e
    by Equal e = let same = same_name a b e in ap (λ (z : Name). put (put xs z) b) same ∙ ap (λ (z : Name). put (put xs b) z) (sym same)
    by Greater e = sym (put-ordered xs b a (reversed a b Greater e))

put_last : (ys keys : List Name) (n : Name) → fold put (put keys n) ys ≡ put (fold put keys ys) n
put_last [] keys n = refl
put_last (y ∷ ys) keys n = ap (λ (l : List Name). fold put l ys) (put-commute keys n y) ∙ put_last ys (put keys y) n

fold-put : (xs keys : List Name) (n : Name) → fold put keys (put xs n) ≡ put (fold put keys xs) n
fold-put [] keys n = refl
fold-put (x ∷ xs) keys n = by (name_cmp n x) refl (fold-put xs (put keys x) n)
  where
    by : (o : Ordering) → name_cmp n x ≡ o → fold put (put keys x) (put xs n) ≡ put (fold put (put keys x) xs) n
        → fold put keys (match_ordering o (n ∷ x ∷ xs) (x ∷ xs) (x ∷ put xs n)) ≡ put (fold put (put keys x) xs) n
    by Less e ih = put_last (x ∷ xs) keys n
    by Equal e ih =
        sym (ap (λ (z : Name). put (fold put (put keys x) xs) z) (same_name n x e)
        ∙ sym (put_last xs (put keys x) x) ∙ ap (λ (l : List Name). fold put l xs) (put-twice keys x))
    by Greater e ih = ih

fold-fold : (xs done keys : List Name) → fold put keys (fold put done xs) ≡ fold put (fold put keys done) xs
fold-fold [] done keys = refl
fold-fold (x ∷ xs) done keys = fold-fold xs (put done x) keys ∙ ap (λ (l : List Name). fold put l xs) (fold-put done keys x)

-- the reported names, each once, make the same set as those of all entries
pub put_reported : (keys : List Name) (p : Path) (es : Entries)
    → fold (insert_key name_cmp) keys (reported_names p es) ≡ fold (insert_key name_cmp) keys (names_in p es)
put_reported keys p es = fold-fold (names_in p es) [] keys

-- ---- a name is reported where an entry is at it or below it

named_within : (p q : Path) (m : Name) → has_name (next_name p q) m ≡ is_within (child p m) q
named_within [] [] m = refl
named_within [] (a ∷ q) m = ap (λ b. b || false) (bytes_eq-symm a m) ∙ by (bytes_eq m a)
  where
    by : (b : Bool) → (b || false) ≡ (b && true)
    by true = refl
    by false = refl
named_within (c ∷ p) [] m = refl
named_within (c ∷ p) (a ∷ q) m = by (bytes_eq c a) (named_within p q m)
  where
    by : (b : Bool) → has_name (next_name p q) m ≡ is_within (child p m) q
        → has_name (cond b (next_name p q) []) m ≡ (b && is_within (child p m) q)
    by true ih = ih
    by false ih = refl

has_name-names_in : (p : Path) (es : Entries) (m : Name) → has_name (names_in p es) m ≡ has_entry_within es (child p m)
has_name-names_in p [] m = refl
has_name-names_in p (e ∷ es) m =
    list_any-append (λ n. bytes_eq n m) (next_name p e.0) (names_in p es) ∙ ap (λ b. b || has_name (names_in p es) m) (named_within p e.0 m)
    ∙ ap (λ b. is_within (child p m) e.0 || b) (has_name-names_in p es m)

pub has_name-reported : (p : Path) (es : Entries) (m : Name) → has_name (reported_names p es) m ≡ has_entry_within es (child p m)
has_name-reported p es m = has_name-fold (names_in p es) [] m ∙ has_name-names_in p es m

-- ---- they are in their order

-- the name comes before all of them
abbrev pub IsBefore : Name → List Name → Type 0
IsBefore n [] = Unit {0}
IsBefore n (m ∷ ms) = (name_cmp n m ≡ Less) × IsBefore n ms

abbrev pub AreOrdered : List Name → Type 0
AreOrdered [] = Unit {0}
AreOrdered (n ∷ ns) = IsBefore n ns × AreOrdered ns

before_all : (n k : Name) (ms : List Name) → name_cmp n k ≡ Less → IsBefore k ms → IsBefore n ms
before_all n k [] l h = tt
before_all n k (m ∷ ms) l h = (nat_list_cmp_total.trans n k m l h.0, before_all n k ms l h.1)

before_put : (ms : List Name) (k n : Name) → name_cmp k n ≡ Less → IsBefore k ms → IsBefore k (put ms n)
before_put [] k n l h = (l, tt)
before_put (m ∷ ms) k n l h = by (name_cmp n m) (before_put ms k n l h.1)
  where
    by : (o : Ordering) → IsBefore k (put ms n) → IsBefore k (match_ordering o (n ∷ m ∷ ms) (m ∷ ms) (m ∷ put ms n))
    by Less ih = (l, h)
    by Equal ih = h
    by Greater ih = (h.0, ih)

ordered-put : (ms : List Name) (n : Name) → AreOrdered ms → AreOrdered (put ms n)
ordered-put [] n h = (tt, tt)
ordered-put (k ∷ ms) n h = by (name_cmp n k) refl (ordered-put ms n h.1)
  where
    by : (o : Ordering) → name_cmp n k ≡ o → AreOrdered (put ms n) → AreOrdered (match_ordering o (n ∷ k ∷ ms) (k ∷ ms) (k ∷ put ms n))
    by Less e ih = ((e, before_all n k ms e h.0), h)
    by Equal e ih = h
    by Greater e ih = (before_put ms k n (reversed n k Greater e) h.0, ih)

ordered-fold : (xs ms : List Name) → AreOrdered ms → AreOrdered (fold put ms xs)
ordered-fold [] ms h = h
ordered-fold (x ∷ xs) ms h = ordered-fold xs (put ms x) (ordered-put ms x h)

pub ordered_reported : (p : Path) (es : Entries) → AreOrdered (reported_names p es)
ordered_reported p es = ordered-fold (names_in p es) [] tt

-- ---- the next name is the first of those that come after

comes : (after : Option Name) (m : Name) → comes_after after m ≡ true → ComesAfter after m
comes None m e = tt
comes (Some k) m e = less_from_is_lt (name_cmp k m) e

tests : (after : Option Name) (m : Name) → ComesAfter after m → comes_after after m ≡ true
tests None m e = refl
tests (Some k) m e = ap is_lt e

later : (n : Name) (ms : List Name) (m : Name) → IsBefore n ms → has_name ms m ≡ true → name_cmp n m ≡ Less
later n [] m h e = absurd (true≢false (sym e))
later n (k ∷ ms) m h e = by (bytes_eq k m) refl e (later n ms m h.1)
  where
    by : (b : Bool) → bytes_eq k m ≡ b → (b || has_name ms m) ≡ true → (has_name ms m ≡ true → name_cmp n m ≡ Less) → name_cmp n m ≡ Less
    by true q e ih = ap (name_cmp n) (sym (same_bytes k m q)) ∙ h.0
    by false q e ih = ih e

all_after : (n : Name) (ms : List Name) → IsBefore n ms → names_after (Some n) ms ≡ ms
all_after n [] h = refl
all_after n (m ∷ ms) h = ap (λ o. cond (is_lt o) (m ∷ ms) (names_after (Some n) ms)) h.0

pub names_after-none : (xs : List Name) → names_after None xs ≡ xs
names_after-none [] = refl
names_after-none (x ∷ xs) = refl

none_listed : (ms : List Name) (after : Option Name) → ((m : Name) → has_name ms m ≡ true → ComesAfter after m → ⊥)
    → names_after after ms ≡ []
none_listed [] after out = refl
none_listed (x ∷ ms) after out =
    by (comes_after after x) refl (none_listed ms after (λ m h a. out m (ap (λ b. bytes_eq x m || b) h ∙ or-true (bytes_eq x m)) a))
  where
    by : (b : Bool) → comes_after after x ≡ b → names_after after ms ≡ [] → cond b (x ∷ ms) (names_after after ms) ≡ []
    by true e ih = absurd (out x (ap (λ b. b || has_name ms x) (bytes_eq-same x)) (comes after x e))
    by false e ih = ih

listed : (ms : List Name) (after : Option Name) (n : Name) → AreOrdered ms → has_name ms n ≡ true → ComesAfter after n
    → ((m : Name) → has_name ms m ≡ true → ComesAfter after m → name_cmp m n ≡ Less → ⊥)
    → names_after after ms ≡ n ∷ names_after (Some n) ms
listed [] after n o h a least = absurd (true≢false (sym h))
listed (x ∷ ms) after n o h a least =
    by (comes_after after x) refl (bytes_eq x n) refl h
    (λ g. listed ms after n o.1 g a (λ m i b. least m (ap (λ c. bytes_eq x m || c) i ∙ or-true (bytes_eq x m)) b))
  where
    here : has_name (x ∷ ms) x ≡ true
    here = ap (λ b. b || has_name ms x) (bytes_eq-same x)

    by : (s : Bool) → comes_after after x ≡ s → (t : Bool) → bytes_eq x n ≡ t → (t || has_name ms n) ≡ true
        → (has_name ms n ≡ true → names_after after ms ≡ n ∷ names_after (Some n) ms)
        → cond s (x ∷ ms) (names_after after ms) ≡ n ∷ cond (is_lt (name_cmp n x)) (x ∷ ms) (names_after (Some n) ms)
    by true s true t h ih =
        let same : x ≡ n = same_bytes x n t in
        ap (λ (z : Name). z ∷ ms) same
        ∙ ap (λ (l : List Name). n ∷ l)
        (sym (ap (λ b. cond (is_lt b) (x ∷ ms) (names_after (Some n) ms)) (ap (name_cmp n) same ∙ name_cmp-same n)
        ∙ ap (λ (z : Name). names_after (Some z) ms) (sym same) ∙ all_after x ms o.0))
    by true s false t h ih = absurd (least x here (comes after x s) (later x ms n o.0 h))
    by false s true t h ih = absurd (true≢false (sym (tests after n a) ∙ ap (comes_after after) (sym (same_bytes x n t)) ∙ s))
    by false s false t h ih =
        ih h
        ∙ ap (λ (l : List Name). n ∷ l)
        (sym (ap (λ b. cond (is_lt b) (x ∷ ms) (names_after (Some n) ms)) (reversed x n Less (later x ms n o.0 h))))

pub next_listed : (p : Path) (es : Entries) (after found : Option Name) → IsNextName p es after found
    → names_after after (reported_names p es) ≡ names_from found (reported_names p es)
next_listed p es after None next =
    none_listed (reported_names p es) after (λ m h a. true≢false (sym (sym (has_name-reported p es m) ∙ h) ∙ next m a))
next_listed p es after (Some n) next =
    listed (reported_names p es) after n (ordered_reported p es) (has_name-reported p es n ∙ next.1) next.0
    (λ m h a l. next.2 m a (sym (has_name-reported p es m) ∙ h) l)
