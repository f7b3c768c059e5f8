-- What is left of the names below a path: that the first name is taken from what is left, and what is under it.
--     all_left, left_at_first      at first all names are left, with what is under them
--     left_step      the names that are left are the one that was taken, and those that are left then
--     step_under      what is under the name that was taken
--     step_kept      what is left then is in order, and has what is under each name
--     behind_another      a name is another than one after it
use Rattle.std.proofs.Common.{◌≡◌, ◌≢◌, ◌⊎◌, inl, inr, ℕ, Bool, true, false, ◌&&◌, ◌||◌, List, [], ◌∷◌, ◌++◌, refl, sym, ◌∙◌, ap}
use Rattle.std.proofs.Common.{subst, true≢false, length}
use Rattle.std.specs.Prelude.{Option, Some, None, cond, is_some, unwrap_or, fold, bytes_eq}
use Rattle.std.specs.List.{list_any}
use Rattle.std.specs.Map.{keys_of}
use Rattle.std.specs.BTreeSet.{insert_key}
use Rattle.std.specs.declared.cmp.Ordering.{Ordering}
use Rattle.std.specs.declared.cmp.Ordering.TheVariants.{Less, Equal, Greater}
use Rattle.std.specs.Ordering.{is_lt}
use Rattle.std.proofs.lemmas.List.Folds.{list_any-append}
use Rattle.std.proofs.lemmas.Bool.{or_left, or_right, or_parts, not-false}
use Rattle.svn_lists.proofs.Equality.{bytes_eq-same, same_bytes}
use Rattle.svn_lists.proofs.Orderings.{less_from_is_lt}
use Rattle.svn_types.specs.Names.{Path, name_cmp}
use Rattle.svn_types.specs.Paths.{child, is_within}
use Rattle.svn_types.specs.Pairs.{InNameOrder, value_of}
use Rattle.svn_types.proofs.NameLemmas.{Name, same_name, name_cmp-same, lt_chain, reversed, flipped}
use Rattle.svn_types.proofs.NameLemmas.{has_name-fold}
use Rattle.svn_types.proofs.NameLemmas.{value_of-first, no_name_no_value}
use Rattle.svn_types.proofs.NameSets.{fold_sorted}
use Rattle.svn_repo.specs.History.{History}
use Rattle.svn_report.specs.Reports.{Entries}
use Rattle.svn_report.specs.ReportNames.{next_name as next_reported, names_in as reported_in, has_entry_within}
use Rattle.svn_report.proofs.ReportedNames.{has_name-reported}
use Rattle.svn_model.specs.Follow.{DriveInput, source_node, target_node}
use Rattle.svn_model.specs.Tree.{next_name, names_in, names_at, names_below}
use Rattle.svn_model.proofs.Children.{entry_below}
use Rattle.law_drive.proofs.Ways.{not_before, Ordered, ordered-fold, ordered_apart, ordered_below}
use Rattle.svn_drive.specs.declared.child_names.Below.{Below}
use Rattle.svn_drive.specs.declared.child_names.NamesLeft.{NamesLeft}
use Rattle.svn_drive.specs.declared.place.Place.{Place}
use Rattle.svn_drive.specs.Firsts.{entries_at, first_of, first_key, earlier, InOrder, TakesValue}
use Rattle.svn_drive.specs.NamesLeft.{source_of, target_of, reported_of, first_name, names_left, TakesChild, IsBelow, has_name, HasAll}
use Rattle.svn_drive.specs.NamesLeft.{AreLeft}
use Rattle.svn_drive.specs.Parts.{IsPart, Named, by_name, entries_in, entries_under, none_or}
use Rattle.svn_drive.specs.Walking.{IsAt, entry_of}
use Rattle.svn_drive.proofs.ByName.{all_after, ordered_of}
use Rattle.svn_drive.proofs.Idle.{entry-below}
use Rattle.svn_drive.proofs.Parts.{names_ordered, part_named, part_under}

-- ---- names in their order

has_own : (n : Name) (ns : List Name) → has_name (n ∷ ns) n ≡ true
has_own n ns = ap (λ b. b || has_name ns n) (bytes_eq-same n)

one_after : (n : Name) (ns : List Name) (m : Name) → list_any (not_before n) ns ≡ false → has_name ns m ≡ true → name_cmp n m ≡ Less
one_after n [] m a h = absurd (true≢false (sym h))
one_after n (k ∷ ns) m a h = by (bytes_eq k m) refl h (one_after n ns m parts.1)
  where
    parts : (not_before n k ≡ false) × (list_any (not_before n) ns ≡ false)
    parts = or_parts (not_before n k) (list_any (not_before n) ns) a

    by : (b : Bool) → bytes_eq k m ≡ b → (b || has_name ns m) ≡ true → (has_name ns m ≡ true → name_cmp n m ≡ Less) → name_cmp n m ≡ Less
    by true q e ih =
        ap (name_cmp n) (sym (same_bytes k m q)) ∙ less_from_is_lt (name_cmp n k) (not-false (is_lt (name_cmp n k)) parts.0)
    by false q e ih = ih e

-- two lists in order with the same names are one
same_list : (xs ys : List Name) → Ordered xs → Ordered ys → ((m : Name) → has_name xs m ≡ has_name ys m) → xs ≡ ys
same_list [] [] h k e = refl
same_list [] (y ∷ ys) h k e = absurd (true≢false (sym (e y ∙ has_own y ys)))
same_list (x ∷ xs) [] h k e = absurd (true≢false (sym (has_own x xs) ∙ e x))
same_list (x ∷ xs) (y ∷ ys) h k e = by (name_cmp x y) refl (same_list xs ys h.1 k.1)
  where
    rest : x ≡ y → (m : Name) (b : Bool) → bytes_eq x m ≡ b → has_name xs m ≡ has_name ys m
    rest s m true q =
        let at : x ≡ m = same_bytes x m q in
        ap (has_name xs) (sym at) ∙ ordered_apart x xs h.0 ∙ sym (ap (has_name ys) (sym at ∙ s) ∙ ordered_apart y ys k.0)
    rest s m false q =
        sym (ap (λ b. b || has_name xs m) q) ∙ e m ∙ ap (λ b. b || has_name ys m) (ap (λ (z : Name). bytes_eq z m) (sym s) ∙ q)

    by : (o : Ordering) → name_cmp x y ≡ o → (((m : Name) → has_name xs m ≡ has_name ys m) → xs ≡ ys) → x ∷ xs ≡ y ∷ ys
    by Less q ih = absurd (true≢false (sym (has_own x xs) ∙ e x ∙ ordered_apart x (y ∷ ys) (all_after x y ys q k)))
    by Greater q ih =
        let before = all_after y x xs (reversed x y Greater q) h in
        absurd (true≢false (sym (has_own y ys) ∙ sym (e y) ∙ ordered_apart y (x ∷ xs) before))
    by Equal q ih = let s = same_name x y q in λ i. s i ∷ ih (λ m. rest s m (bytes_eq x m) refl) i

in_order : (ns : List Name) → Ordered ns → InOrder ns
in_order ns h = same_list (fold (insert_key name_cmp) [] ns) ns (ordered-fold ns [] tt) h (λ m. has_name-fold ns [] m)

-- what holds of each name holds of the first
after_each : (n : Name) (ns : List Name) → Ordered ns → ((m : Name) → has_name ns m ≡ true → name_cmp n m ≡ Less)
    → list_any (not_before n) ns ≡ false
after_each n [] h f = refl
after_each n (k ∷ ns) h f = all_after n k ns (f k (has_own k ns)) h

-- ---- the first of several names

not_self : (n : Name) → is_lt (name_cmp n n) ≡ false
not_self n = ap is_lt (name_cmp-same n)

-- a name is another than one that is after it
pub behind_another : (n m : Name) → name_cmp n m ≡ Less → Some m ≢ Some n
behind_another n m l q =
    true≢false (sym (ap is_lt l) ∙ ap (λ (o : Option Name). is_lt (name_cmp n (unwrap_or o n))) q ∙ not_self n)

-- there is a name, and it isn't before the other
abbrev NotBefore : Option Name → Name → Type 0
NotBefore None n = Unit {0}
NotBefore (Some m) n = is_lt (name_cmp m n) ≡ false

-- what a name isn't before, no later one is
later_too : (k m n : Name) → is_lt (name_cmp k m) ≡ true → is_lt (name_cmp k n) ≡ false → is_lt (name_cmp m n) ≡ false
later_too k m n l h = by (is_lt (name_cmp m n)) refl
  where
    by : (b : Bool) → is_lt (name_cmp m n) ≡ b → b ≡ false
    by true q = absurd (true≢false (sym (lt_chain k m n l q) ∙ h))
    by false q = refl

neither_before : (a b : Option Name) (n : Name) → NotBefore (earlier a b) n → NotBefore a n × NotBefore b n
neither_before None b n h = (tt, h)
neither_before (Some m) None n h = (h, tt)
neither_before (Some m) (Some k) n h = by (is_lt (name_cmp k m)) refl h
  where
    level : (o : Ordering) → name_cmp k m ≡ o → is_lt o ≡ false → is_lt (name_cmp m n) ≡ false → is_lt (name_cmp k n) ≡ false
    level Less q l g = absurd (true≢false l)
    level Equal q l g = ap (λ (z : Name). is_lt (name_cmp z n)) (same_name k m q) ∙ g
    level Greater q l g = later_too m k n (flipped k m q) g

    by : (b : Bool) → is_lt (name_cmp k m) ≡ b → NotBefore (cond b (Some k) (Some m)) n → NotBefore (Some m) n × NotBefore (Some k) n
    by true q g = (later_too k m n q g, g)
    by false q g = (g, level (name_cmp k m) refl q g)

one_of : (a b : Option Name) (n : Name) → earlier a b ≡ Some n → (a ≡ Some n) ⊎ (b ≡ Some n)
one_of None b n e = inr e
one_of (Some m) None n e = inl e
one_of (Some m) (Some k) n e = by (is_lt (name_cmp k m)) e
  where
    by : (b : Bool) → cond b (Some k) (Some m) ≡ Some n → (Some m ≡ Some n) ⊎ (Some k ≡ Some n)
    by true q = inr q
    by false q = inl q

neither : (a b : Option Name) → earlier a b ≡ None → (a ≡ None) × (b ≡ None)
neither None b e = (refl, e)
neither (Some m) None e = absurd (true≢false (ap is_some e))
neither (Some m) (Some k) e = by (is_lt (name_cmp k m)) e
  where
    by : (b : Bool) → cond b (Some k) (Some m) ≡ None → (Some m ≡ None) × (Some k ≡ None)
    by true q = absurd (true≢false (ap is_some q))
    by false q = absurd (true≢false (ap is_some q))

no_first : (ns : List Name) → first_of ns ≡ None → ns ≡ []
no_first [] e = refl
no_first (n ∷ ns) e = absurd (true≢false (ap is_some e))

pub nothing_left : {V : Type 0} (es : List (Name × V)) → first_key es ≡ None → es ≡ []
nothing_left {V} [] e = refl
nothing_left {V} (x ∷ es) e = absurd (true≢false (ap is_some e))

pub none_left : (l : NamesLeft) → first_name l ≡ None → names_left l ≡ []
none_left l e =
    let all = neither (earlier (first_key l.source) (first_key l.target)) (first_key l.reported) e in
    let entries = neither (first_key l.source) (first_key l.target) all.0 in
    λ i. fold (insert_key name_cmp) []
    (no_first (keys_of l.source) entries.0 i ++ no_first (keys_of l.target) entries.1 i ++ no_first (keys_of l.reported) all.1 i)

-- ---- one list: the name is taken if it is the first

abbrev TakesName : Name → List Name → Bool → List Name → Type 0
TakesName name ns true rest = ns ≡ name ∷ rest
TakesName name ns false rest = (rest ≡ ns) × (first_of ns ≢ Some name)

record Taken (n : Name) (ns : List Name) (b : Bool) (rest : List Name) : Type 0 where
  pub after : list_any (not_before n) rest ≡ false
  pub ordered : Ordered rest
  pub has : (m : Name) → has_name ns m ≡ (b && bytes_eq n m || has_name rest m)

behind : (n : Name) (ns : List Name) → Ordered ns → NotBefore (first_of ns) n → first_of ns ≢ Some n → list_any (not_before n) ns ≡ false
behind n [] h f d = refl
behind n (x ∷ ns) h f d = by (name_cmp n x) refl
  where
    by : (o : Ordering) → name_cmp n x ≡ o → list_any (not_before n) (x ∷ ns) ≡ false
    by Less q = all_after n x ns q h
    by Equal q = absurd (d (ap Some (sym (same_name n x q))))
    by Greater q = absurd (true≢false (sym (flipped n x q) ∙ f))

taken : (n : Name) (ns : List Name) (b : Bool) (rest : List Name) → Ordered ns → NotBefore (first_of ns) n → TakesName n ns b rest
    → Taken n ns b rest
taken n ns true rest h f t =
    let k = subst Ordered t h in record { after = k.0; ordered = k.1; has = λ m. ap (λ (l : List Name). has_name l m) t }
taken n ns false rest h f t =
    record {
      after = ap (list_any (not_before n)) t.0 ∙ behind n ns h f t.1;
      ordered = subst Ordered (sym t.0) h;
      has = λ m. ap (λ (l : List Name). has_name l m) (sym t.0);
    }

is_taken : (n : Name) (ns : List Name) (b : Bool) (rest : List Name) → TakesName n ns b rest → first_of ns ≡ Some n → b ≡ true
is_taken n ns true rest t e = refl
is_taken n ns false rest t e = absurd (t.1 e)

-- ---- the same of what is under names

as_names : {V : Type 0} (n : Name) (es : List (Name × V)) (o : Option V) (rest : List (Name × V)) → TakesValue n es o rest
    → TakesName n (keys_of es) (is_some o) (keys_of rest)
as_names {V} n es (Some v) rest t = ap keys_of t
as_names {V} n es None rest t = (ap keys_of t.0, t.1)

value_taken : {V : Type 0} (n : Name) (es : List (Name × V)) (o : Option V) (rest : List (Name × V)) → TakesValue n es o rest
    → list_any (not_before n) (keys_of rest) ≡ false → value_of es n ≡ o
value_taken {V} n es (Some v) rest t after =
    ap (λ (l : List (Name × V)). value_of l n) t ∙ value_of-first (n, v) rest n
    ∙ ap (λ b. cond b (Some v) (value_of rest n)) (bytes_eq-same n)
value_taken {V} n es None rest t after =
    no_name_no_value es n
    (ordered_apart n (keys_of es) (ap (λ (l : List (Name × V)). list_any (not_before n) (keys_of l)) (sym t.0) ∙ after))

value_kept : {V : Type 0} (n m : Name) (es : List (Name × V)) (o : Option V) (rest : List (Name × V)) → TakesValue n es o rest → bytes_eq n m ≡ false
    → value_of es m ≡ value_of rest m
value_kept {V} n m es (Some v) rest t e =
    ap (λ (l : List (Name × V)). value_of l m) t ∙ value_of-first (n, v) rest m ∙ ap (λ b. cond b (Some v) (value_of rest m)) e
value_kept {V} n m es None rest t e = ap (λ (l : List (Name × V)). value_of l m) (sym t.0)

or_none : (part : Entries) → unwrap_or (none_or part) [] ≡ part
or_none [] = refl
or_none (e ∷ part) = refl

-- where no name is left none is taken
pub none_taken : (n : Name) (gs : Named) (part : Entries) → gs ≡ [] → part ≡ [] → TakesValue n gs (none_or part) gs
none_taken n gs part e p = subst (λ (q : Entries). TakesValue n gs (none_or q) gs) (sym p) (refl, λ k. none (sym (ap first_key e) ∙ k))
  where
    none : None ≡ Some n → ⊥
    none z = cc

-- ---- three lists

has_left : (l : NamesLeft) (m : Name)
    → has_name (names_left l) m
    ≡ ((has_name (keys_of l.source) m || has_name (keys_of l.target) m) || has_name (keys_of l.reported) m)
has_left l m =
    has_name-fold (keys_of l.source ++ keys_of l.target ++ keys_of l.reported) [] m
    ∙ list_any-append (λ n. bytes_eq n m) (keys_of l.source ++ keys_of l.target) (keys_of l.reported)
    ∙ ap (λ b. b || has_name (keys_of l.reported) m) (list_any-append (λ n. bytes_eq n m) (keys_of l.source) (keys_of l.target))

join : (a b c e x y z : Bool) → ((a || b) || c) ≡ true → (((a && e || x) || (b && e || y)) || (c && e || z)) ≡ (e || ((x || y) || z))
join true b c true x y z h = refl
join false true c true true y z h = refl
join false true c true false y z h = refl
join false false true true true y z h = refl
join false false true true false true z h = refl
join false false true true false false z h = refl
join false false false e x y z h = absurd (true≢false (sym h))
join true true true false x y z h = refl
join true true false false x y z h = refl
join true false true false x y z h = refl
join true false false false x y z h = refl
join false true true false x y z h = refl
join false true false false x y z h = refl
join false false true false x y z h = refl

module _ (d : DriveInput) (place : Place) (l : NamesLeft) (n : Name) (below : Below) (l' : NamesLeft) (left : AreLeft d place l)
    (t : TakesChild l n below l') where
  abbrev in_source : Option ℕ
  in_source = source_of below

  abbrev in_target : Option ℕ
  in_target = target_of below

  abbrev in_reported : Option Entries
  in_reported = none_or (reported_of below)

  abbrev from_source : Option Name
  from_source = first_key l.source

  abbrev from_target : Option Name
  from_target = first_key l.target

  early : NotBefore (earlier (earlier from_source from_target) (first_key l.reported)) n
  early = subst (λ o. NotBefore o n) (sym t.first) (not_self n)

  both_early : NotBefore (earlier from_source from_target) n × NotBefore (first_key l.reported) n
  both_early = neither_before (earlier from_source from_target) (first_key l.reported) n early

  all_early : NotBefore from_source n × NotBefore from_target n
  all_early = neither_before from_source from_target n both_early.0

  of_source : Taken n (keys_of l.source) (is_some in_source) (keys_of l'.source)
  of_source =
      taken n (keys_of l.source) (is_some in_source) (keys_of l'.source) (ordered_of (keys_of l.source) left.source) all_early.0
      (as_names n l.source in_source l'.source t.source)

  of_target : Taken n (keys_of l.target) (is_some in_target) (keys_of l'.target)
  of_target =
      taken n (keys_of l.target) (is_some in_target) (keys_of l'.target) (ordered_of (keys_of l.target) left.target) all_early.1
      (as_names n l.target in_target l'.target t.target)

  of_reported : Taken n (keys_of l.reported) (is_some in_reported) (keys_of l'.reported)
  of_reported =
      taken n (keys_of l.reported) (is_some in_reported) (keys_of l'.reported)
      (ordered_of (keys_of l.reported) left.reported) both_early.1
      (as_names n l.reported in_reported l'.reported t.reported)

  somewhere : ((is_some in_source || is_some in_target) || is_some in_reported) ≡ true
  somewhere = by (one_of (earlier from_source from_target) (first_key l.reported) n t.first)
    where
      entries : (from_source ≡ Some n) ⊎ (from_target ≡ Some n) → (is_some in_source || is_some in_target) ≡ true
      entries (inl q) =
          or_left (is_some in_source) (is_some in_target)
          (is_taken n (keys_of l.source) (is_some in_source) (keys_of l'.source) (as_names n l.source in_source l'.source t.source) q)
      entries (inr q) =
          or_right (is_some in_source) (is_some in_target)
          (is_taken n (keys_of l.target) (is_some in_target) (keys_of l'.target) (as_names n l.target in_target l'.target t.target) q)

      by : (earlier from_source from_target ≡ Some n) ⊎ (first_key l.reported ≡ Some n)
          → ((is_some in_source || is_some in_target) || is_some in_reported) ≡ true
      by (inl q) = or_left (is_some in_source || is_some in_target) (is_some in_reported) (entries (one_of from_source from_target n q))
      by (inr q) =
          or_right (is_some in_source || is_some in_target) (is_some in_reported)
          (is_taken n (keys_of l.reported) (is_some in_reported) (keys_of l'.reported)
          (as_names n l.reported in_reported l'.reported t.reported) q)

  same_names_left : (m : Name) → has_name (names_left l) m ≡ has_name (n ∷ names_left l') m
  same_names_left m =
      has_left l m ∙ (λ i. (of_source.has m i || of_target.has m i) || of_reported.has m i)
      ∙ join (is_some in_source) (is_some in_target) (is_some in_reported) (bytes_eq n m) (has_name (keys_of l'.source) m)
      (has_name (keys_of l'.target) m) (has_name (keys_of l'.reported) m) somewhere
      ∙ ap (λ b. bytes_eq n m || b) (sym (has_left l' m))

  after_all : list_any (not_before n) (names_left l') ≡ false
  after_all =
      after_each n (names_left l') (ordered-fold (keys_of l'.source ++ keys_of l'.target ++ keys_of l'.reported) [] tt)
      (λ m h. by m (has_name (keys_of l'.source) m) refl (has_name (keys_of l'.target) m) refl (sym (has_left l' m) ∙ h))
    where
      by : (m : Name) (a : Bool) → has_name (keys_of l'.source) m ≡ a → (b : Bool) → has_name (keys_of l'.target) m ≡ b
          → ((has_name (keys_of l'.source) m || has_name (keys_of l'.target) m) || has_name (keys_of l'.reported) m) ≡ true → name_cmp n m ≡ Less
      by m true q b r h = one_after n (keys_of l'.source) m of_source.after q
      by m false q true r h = one_after n (keys_of l'.target) m of_target.after r
      by m false q false r h =
          one_after n (keys_of l'.reported) m of_reported.after (sym (λ i. (q i || r i) || has_name (keys_of l'.reported) m) ∙ h)

  pub left_step : names_left l ≡ n ∷ names_left l'
  left_step =
      same_list (names_left l) (n ∷ names_left l')
      (ordered-fold (keys_of l.source ++ keys_of l.target ++ keys_of l.reported) [] tt)
      (after_all, ordered-fold (keys_of l'.source ++ keys_of l'.target ++ keys_of l'.reported) [] tt) same_names_left

  pub step_under : IsBelow d place below
  step_under =
      let all = left.under n (ap (λ (ns : List Name). has_name ns n) left_step ∙ has_own n (names_left l')) in
      record {
        source =
            sym (all.source ∙ value_taken n l.source in_source l'.source t.source of_source.after)
            ∙ ap (entry_of d.history place.source) (sym t.named);
        target =
            sym (all.target ∙ value_taken n l.target in_target l'.target t.target of_target.after)
            ∙ ap (entry_of d.history place.target) (sym t.named);
        reported =
            subst (λ (m : Name). IsPart d.report.entries (is_within (child place.here.path m)) (reported_of below)) (sym t.named)
            (subst (IsPart d.report.entries (is_within (child place.here.path n)))
            (ap (λ (o : Option Entries). unwrap_or o []) (value_taken n l.reported in_reported l'.reported t.reported of_reported.after)
            ∙ or_none (reported_of below))
            all.reported);
      }

  others : (m : Name) → has_name (names_left l') m ≡ true → (b : Bool) → bytes_eq n m ≡ b → b ≡ false
  others m h false q = refl
  others m h true q =
      absurd (true≢false (sym h ∙ ap (has_name (names_left l')) (sym (same_bytes n m q)) ∙ ordered_apart n (names_left l') after_all))

  pub step_kept : AreLeft d place l'
  step_kept =
      record {
        source = in_order (keys_of l'.source) of_source.ordered;
        target = in_order (keys_of l'.target) of_target.ordered;
        reported = in_order (keys_of l'.reported) of_reported.ordered;
        under = under;
      }
    where
      under : (m : Name) → has_name (names_left l') m ≡ true → HasAll d place l' m
      under m h =
          let other : bytes_eq n m ≡ false = others m h (bytes_eq n m) refl in
          let all =
          left.under m (ap (λ (ns : List Name). has_name ns m) left_step ∙ ap (λ b. b || has_name (names_left l') m) other ∙ h) in
          record {
            source = all.source ∙ value_kept n m l.source in_source l'.source t.source other;
            target = all.target ∙ value_kept n m l.target in_target l'.target t.target other;
            reported =
                subst (IsPart d.report.entries (is_within (child place.here.path m)))
                (ap (λ (o : Option Entries). unwrap_or o []) (value_kept n m l.reported in_reported l'.reported t.reported other))
                all.reported;
          }

-- ---- at first

same_next : (p q : Path) → next_reported p q ≡ next_name p q
same_next [] [] = refl
same_next [] (n ∷ q) = refl
same_next (m ∷ p) [] = refl
same_next (m ∷ p) (n ∷ q) = ap (λ (l : List Name). cond (bytes_eq m n) l []) (same_next p q)

same_names : (p : Path) (es : Entries) → reported_in p es ≡ names_in p es
same_names p [] = refl
same_names p (e ∷ es) = λ i. same_next p e.0 i ++ same_names p es i

named_within : (p : Path) (es : Entries) (m : Name) → has_name (names_in p es) m ≡ has_entry_within es (child p m)
named_within p es m =
    sym (has_name-fold (reported_in p es) [] m ∙ ap (λ (l : List Name). has_name l m) (same_names p es)) ∙ has_name-reported p es m

keys_at : (h : History) (o : Option ℕ) → keys_of (entries_at h o) ≡ names_at h o
keys_at h None = refl
keys_at h (Some n) = refl

value_at : (h : History) (o : Option ℕ) (m : Name) → entry_below h o m ≡ value_of (entries_at h o) m
value_at h None m = refl
value_at h (Some n) m = refl

module _ (d : DriveInput) (place : Place) (at : IsAt d place) (l : NamesLeft) (src : l.source ≡ entries_at d.history place.source)
    (tgt : l.target ≡ entries_at d.history place.target)
    (rep : l.reported ≡ by_name (length place.here.path) (entries_in place.below)) where
  abbrev p : Path
  p = place.here.path

  pub all_left : names_left l ≡ names_below d p
  all_left =
      same_list (names_left l) (names_below d p) (ordered-fold (keys_of l.source ++ keys_of l.target ++ keys_of l.reported) [] tt)
      (ordered_below d p) same
    where
      same : (m : Name) → has_name (names_left l) m ≡ has_name (names_below d p) m
      same m =
          has_left l m
          ∙ (λ i. (has_name (keys_of (src i)) m || has_name (keys_of (tgt i)) m) || has_name (keys_of (rep i)) m)
          ∙ (λ i. (has_name (keys_at d.history place.source i) m || has_name (keys_at d.history place.target i) m)
          || (part_named d.report.entries p (entries_in place.below) at.below m ∙ sym (named_within p d.report.entries m)) i)
          ∙ (λ i. (has_name (names_at d.history (at.source i)) m || has_name (names_at d.history (at.target i)) m)
          || has_name (names_in p d.report.entries) m)
          ∙ sym (has_name-fold
          (names_at d.history (source_node d p) ++ names_at d.history (target_node d p) ++ names_in p d.report.entries) [] m
          ∙ list_any-append (λ n. bytes_eq n m) (names_at d.history (source_node d p) ++ names_at d.history (target_node d p))
          (names_in p d.report.entries)
          ∙ ap (λ b. b || has_name (names_in p d.report.entries) m)
          (list_any-append (λ n. bytes_eq n m) (names_at d.history (source_node d p)) (names_at d.history (target_node d p))))

  pub left_at_first : InNameOrder l.source → InNameOrder l.target → AreLeft d place l
  left_at_first s t =
      record {
        source = fold_sorted (keys_of l.source) s;
        target = fold_sorted (keys_of l.target) t;
        reported =
            in_order (keys_of l.reported)
            (subst (λ (gs : Named). Ordered (keys_of gs)) (sym rep) (names_ordered d.report.entries p (entries_in place.below) at.below));
        under = λ m h. record {
          source =
              entry-below d.history place.source m ∙ value_at d.history place.source m
              ∙ ap (λ (es : List (Name × ℕ)). value_of es m) (sym src);
          target =
              entry-below d.history place.target m ∙ value_at d.history place.target m
              ∙ ap (λ (es : List (Name × ℕ)). value_of es m) (sym tgt);
          reported =
              subst (λ (gs : Named). IsPart d.report.entries (is_within (child p m)) (entries_under gs m)) (sym rep)
              (part_under d.report.entries p (entries_in place.below) at.below m);
        };
      }
