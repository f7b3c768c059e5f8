-- The next name below a path at which a report has entries.
use Rattle.std.proofs.Common.{◌≡◌, ℕ, ◌<◌, ◌≤◌, Bool, true, false, ◌&&◌, not, List, [], ◌∷◌, cond, length, refl, sym}
use Rattle.std.proofs.Common.{◌∙◌, ap, true≢false, get_or, Bor}
use Rattle.std.specs.Prelude.{Option, Some, None, Ok, bytes_eq, slice_get, IfSome, MatchOption}
use Rattle.std.specs.List.{HoldsAt}
use Rattle.std.proofs.lemmas.Bool.{and_parts}
use Rattle.std.proofs.lemmas.Option.{slice_get_past, slice_get_read}
use Rattle.std.specs.declared.cmp.Ordering.{Ordering}
use Rattle.std.specs.declared.cmp.Ordering.TheVariants.{Less, Equal, Greater}
use Rattle.std.specs.Ordering.{ordering_then, is_lt}
use Rattle.std.specs.Option.{option_copied, option_to_list}
use Rattle.svn_types.specs.Names.{Path, name_cmp, path_cmp}
use Rattle.svn_types.specs.NameFaults.{AnswersPath}
use Rattle.svn_types.specs.declared.fault.PathFault.{PathFault}
use Rattle.svn_types.specs.Paths.{is_within, child}
use Rattle.svn_report.specs.Reports.{Entries}
use Rattle.svn_report.specs.ReportNames.{next_name, has_entry_within, IsNextName}
use Rattle.svn_report.specs.ReportOrder.{IsNextBy, IsNextEntry, IsFirstAfter, end_cmp, has_entry, is_after_name}
use Rattle.svn_types.proofs.NameLemmas.{Name, level_names, same_name, reversed, lt_apart}
use Rattle.svn_types.proofs.PathLemmas.{is_within-same, below_from_child, children_apart}
use Rattle.svn_types.proofs.PathsInOrder.{paths_total, not_both, below_after, within_between}
use Rattle.svn_report.proofs.EndOrder.{names_in_order, names_end_in_order, within_named, later_named, named_ends_before}
use Rattle.svn_report.proofs.Listings.{somewhere, at_some}
use Rattle.svn_report.proofs.InOrder.{behind_parts}

-- ---- the name that leads from a path down to another

pub next_named : (p q : Path) → is_within p q ≡ true → option_to_list (slice_get q (length p)) ≡ next_name p q
next_named [] [] w = refl
next_named [] (n ∷ q) w = refl
next_named (m ∷ p) [] w = absurd (true≢false (sym w))
next_named (m ∷ p) (n ∷ q) w =
    let parts = and_parts (bytes_eq m n) (is_within p q) w in
    next_named p q parts.1 ∙ sym (ap (λ b. cond b (next_name p q) []) parts.0)

pub not_named : (p q : Path) → is_within p q ≡ false → [] ≡ next_name p q
not_named [] q w = absurd (true≢false w)
not_named (m ∷ p) [] w = refl
not_named (m ∷ p) (n ∷ q) w = by (bytes_eq m n) w (not_named p q)
  where
    by : (b : Bool) → (b && is_within p q) ≡ false → (is_within p q ≡ false → [] ≡ next_name p q) → [] ≡ cond b (next_name p q) []
    by true w ih = ih w
    by false w ih = refl

-- the name that was looked up is the one that is there
pub named_at : (q : Path) (i : ℕ) (r : Option (Bor (List ℕ))) → IfSome r (λ x. x.now ≡ get_or q i x.now)
    → MatchOption r (length q ≤ i) (λ x. (i < length q) × HoldsAt (λ y. x.now ≡ y) q i) → option_copied r ≡ slice_get q i
named_at q i None g h = sym (slice_get_past q i h)
named_at q i (Some x) g h = sym (slice_get_read q (length q) i x.now refl h.0 g)

-- ---- a path that was joined

pub joined : (fault : Option PathFault) (p q : Path) → AnswersPath fault p (Ok q) → q ≡ p
joined None p q h = h
joined (Some fault) p q h = absurd h

-- ---- the first path after a bound has the next name

-- nothing within a name, where each path there is ruled out
nothing_at : (es : Entries) (p : Path) (n : List ℕ)
    → ((q : Path) → is_within (child p n) q ≡ true → has_entry es q ≡ true → ⊥) → has_entry_within es (child p n) ≡ false
nothing_at es p n out = by (has_entry_within es (child p n)) refl
  where
    by : (b : Bool) → has_entry_within es (child p n) ≡ b → b ≡ false
    by true h = let s = somewhere (is_within (child p n)) es h in absurd (out s.0 s.1 s.2)
    by false h = refl

-- a path with an entry is within the name that leads to it
there : (es : Entries) (p x : Path) (m : List ℕ) → has_entry es x ≡ true → m ∷ [] ≡ next_name p x → has_entry_within es (child p m) ≡ true
there es p x m h e = at_some (is_within (child p m)) es x (within_named p m x e) h

-- no name before one, where each path at or below it is ruled out
least : (es : Entries) (p : Path) (k : List ℕ) → has_entry_within es (child p k) ≡ true
    → ((q : Path) → is_within (child p k) q ≡ true → has_entry es q ≡ true → ⊥) → ⊥
least es p k h out = absurd (true≢false (sym h ∙ nothing_at es p k out))

child_after : (p q : Path) (n : List ℕ) → is_within (child p n) q ≡ true → path_cmp p q ≡ Less
child_after p q n w = let above = below_from_child p q n w in below_after p q above.0 above.1

-- a path within another and after it has a next name
unnamed : (r y : Path) → is_within r y ≡ true → [] ≡ next_name r y → path_cmp r y ≡ Less → ⊥
unnamed [] [] w h l = cc
unnamed [] (a ∷ y) w h l = cc
unnamed (c ∷ r) [] w h l = absurd (true≢false (sym w))
unnamed (c ∷ r) (a ∷ y) w h l =
    let here = and_parts (bytes_eq c a) (is_within r y) w in
    unnamed r y here.1 (h ∙ ap (λ b. cond b (next_name r y) []) here.0)
    (sym (ap (λ o. ordering_then o (path_cmp r y)) (level_names c a here.0)) ∙ l)

pub first_name : (es : Entries) (p x : Path) (o : Option (List ℕ)) → IsNextEntry es p (Some x) → option_to_list o ≡ next_name p x
    → IsNextName p es None o
first_name es p x None next named = λ n after. nothing_at es p n
    (λ q w has. unnamed p x
    (within_between p x q next.0 (next.2 q (child_after p q n w) has) (below_from_child p q n w).0) named next.0)
first_name es p x (Some m) next named = (
  tt,
  there es p x m next.1 named,
  λ k after h l. least es p k h
      (λ q w has. next.2 q (child_after p q k w) has (names_in_order p k m q x w (within_named p m x named) l)),
)

pub no_first_name : (es : Entries) (p : Path) → IsNextEntry es p None → IsNextName p es None None
no_first_name es p next = λ n after. nothing_at es p n
    (λ q w has. absurd (true≢false (sym has ∙ next q (child_after p q n w))))

-- ---- by the order in which directories end

pub later_name : (es : Entries) (p x : Path) (n : List ℕ) (o : Option (List ℕ)) → IsNextBy end_cmp (has_entry es) (child p n) (Some x)
    → option_to_list o ≡ next_name p x → IsNextName p es (Some n) o
later_name es p x n None next named = λ k after. nothing_at es p k
    (λ q w has. next.2 q (names_end_in_order p n k (child p n) q (is_within-same (child p n)) w after) has
    (named_ends_before p n k x q next.0 named w))
later_name es p x n (Some m) next named = (
  later_named p n m x next.0 named,
  there es p x m next.1 named,
  λ k after h l. least es p k h
      (λ q w has. next.2 q (names_end_in_order p n k (child p n) q (is_within-same (child p n)) w after) has
      (names_end_in_order p k m q x w (within_named p m x named) l)),
)

pub no_later_name : (es : Entries) (p : Path) (n : List ℕ) → IsNextBy end_cmp (has_entry es) (child p n) None → IsNextName p es (Some n) None
no_later_name es p n next = λ k after. nothing_at es p k
    (λ q w has. absurd (true≢false (sym has ∙ next q (names_end_in_order p n k (child p n) q (is_within-same (child p n)) w after))))

-- ---- by the order of the paths

-- what is within a later name comes after the name
named_later : (p : Path) (n k : Name) (q : Path) → name_cmp n k ≡ Less → is_within (child p k) q ≡ true → is_after_name p n q ≡ true
named_later p n k q after w =
    (λ i. is_lt (names_in_order p n k (child p n) q (is_within-same (child p n)) w after i)
    && not (children_apart p k n q (lt_apart n k (ap is_lt after)) w i))

pub name_behind : (es : Entries) (p x : Path) (n : List ℕ) (o : Option (List ℕ)) → IsFirstAfter es p n (Some x)
    → option_to_list o ≡ next_name p x → IsNextName p es (Some n) o
name_behind es p x n o first named = by o named
  where
    parts : (path_cmp (child p n) x ≡ Less) × (is_within (child p n) x ≡ false)
    parts = behind_parts p n x first.0

    p_before : path_cmp p x ≡ Less
    p_before = paths_total.trans p (child p n) x (child_after p (child p n) n (is_within-same (child p n))) parts.0

    by : (o : Option (List ℕ)) → option_to_list o ≡ next_name p x → IsNextName p es (Some n) o
    by None named = λ k after. nothing_at es p k
        (λ q w has. unnamed p x
        (within_between p x q p_before (first.2 q (named_later p n k q after w) has) (below_from_child p q k w).0) named p_before)
    by (Some m) named = (
      later (name_cmp n m) refl,
      there es p x m first.1 named,
      λ k after h l. least es p k h
          (λ q w has. first.2 q (named_later p n k q after w) has (names_in_order p k m q x w (within_named p m x named) l)),
    )
      where
        inside : is_within (child p m) x ≡ true
        inside = within_named p m x named

        later : (c : Ordering) → name_cmp n m ≡ c → name_cmp n m ≡ Less
        later Less e = e
        later Equal e =
            absurd (true≢false (sym (ap (λ (z : Name). is_within (child p z) x) (same_name n m e) ∙ inside) ∙ parts.1))
        later Greater e =
            absurd (not_both (child p n) x parts.0
            (names_in_order p m n x (child p n) inside (is_within-same (child p n)) (reversed n m Greater e)))

pub no_name_behind : (es : Entries) (p : Path) (n : List ℕ) → IsFirstAfter es p n None → IsNextName p es (Some n) None
no_name_behind es p n first = λ k after. nothing_at es p k
    (λ q w has. absurd (true≢false (sym has ∙ first q (named_later p n k q after w))))
