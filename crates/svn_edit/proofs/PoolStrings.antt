-- Pools after strings were pushed, and what is said there.
use Rattle.std.proofs.Common.{◌≡◌, ◌≢◌, ℕ, zero, suc, ◌+◌, Bool, true, false, cond, List, [], ◌∷◌, ◌++◌, length, refl, sym, ◌∙◌, ap}
use Rattle.std.proofs.Common.{append_assoc, arith, true≢false, inl, inr}
use Rattle.std.proofs.lemmas.Option.{none-some}
use Rattle.std.specs.Prelude.{Option, Some, None, is_some, Result, Err, nat_eq, ◌-◌}
use Rattle.std.specs.FinMap as fin
use Rattle.std.specs.Ordering.{nat_cmp}
use Rattle.std.proofs.lemmas.Bool.{cases_eq, eqb-true}
use Rattle.std.proofs.lemmas.Cmp.{nat_cmp_total}
use Rattle.svn_types.specs.Names.{Path}
use Rattle.svn_types.specs.PathKeys.{path_key}
use Rattle.svn_pool.specs.Pools.{Entry, Pools, pool_at, parent_of, strings_of_pool, strings_at, created, pushed}
use Rattle.svn_pool.specs.Ancestry.{IsAbove, IsBeneath, IsCleared, IsDestroyed}
use Rattle.svn_pool.specs.Faults.{Settles}
use Rattle.svn_pool.specs.Refusals.{clear_fault, destroy_fault, fault_if_live}
use Rattle.svn_pool.specs.declared.fault.PoolFault.{PoolFault}
use Rattle.svn_pool.specs.declared.fault.PoolFault.TheVariants.{IsRoot}
use Rattle.svn_pool.proofs.Views.{inserted_here, inserted_away, removed_here, removed_away}
use Rattle.svn_edit.specs.declared.baton.Baton.{Baton}
use Rattle.svn_edit.specs.declared.baton.Note.{Note}
use Rattle.svn_edit.specs.Applying.{pool_entry, NotesText, BatonBegun, BatonSaid, IsLeaf, PoolGone}

pub own_one : (t : Pools) (s : ℕ) (x : List ℕ) → pool_at (pushed t s x) s ≡ Some
    (record { parent = parent_of (pool_at t s); strings = strings_at t s ++ x ∷ [] })
own_one t s x = inserted_here t.live s (record { parent = parent_of (pool_at t s); strings = strings_at t s ++ x ∷ [] })

pub others_one : (t : Pools) (s : ℕ) (x : List ℕ) (q : ℕ) → q ≢ s → pool_at (pushed t s x) q ≡ pool_at t q
others_one t s x q n = inserted_away t.live s (record { parent = parent_of (pool_at t s); strings = strings_at t s ++ x ∷ [] }) q n

parents_one : (t : Pools) (s : ℕ) (x : List ℕ) (q : ℕ) → parent_of (pool_at (pushed t s x) q) ≡ parent_of (pool_at t q)
parents_one t s x q = elim (cases_eq q s) [
  | inl is ↦ ap (λ r. parent_of (pool_at (pushed t s x) r)) is ∙ ap parent_of (own_one t s x) ∙ ap (λ r. parent_of (pool_at t r)) (sym is)
  | inr n ↦ ap parent_of (others_one t s x q n)
]

-- ---- how many are live

pub len_pushed : (t : Pools) (s : ℕ) (x : List ℕ) (e : Entry) → pool_at t s ≡ Some e → fin.len (pushed t s x).live ≡ fin.len t.live
len_pushed t s x e live =
    fin.len-insert nat_cmp_total t.live s (record { parent = parent_of (pool_at t s); strings = strings_at t s ++ x ∷ [] })
    ∙ ap (λ (o : Option Entry). cond (is_some o) (fin.len t.live) (fin.len t.live + 1)) live

pub len_created : (t : Pools) (p : ℕ) → pool_at t t.next ≡ None → fin.len (created t p).live ≡ fin.len t.live + 1
len_created t p fresh =
    fin.len-insert nat_cmp_total t.live t.next (pool_entry p [])
    ∙ ap (λ (o : Option Entry). cond (is_some o) (fin.len t.live) (fin.len t.live + 1)) fresh

len_removed : (m : fin.FinMap nat_cmp Entry) (s : ℕ) (e : Entry) → fin.get m s ≡ Some e → fin.len m ≡ fin.len (fin.remove m s) + 1
len_removed m s e there =
    by (fin.len m) refl (fin.len-remove nat_cmp_total m s ∙ ap (λ (o : Option Entry). cond (is_some o) (fin.len m - 1) (fin.len m)) there)
  where
    by : (n : ℕ) → fin.len m ≡ n → fin.len (fin.remove m s) ≡ fin.len m - 1 → fin.len m ≡ fin.len (fin.remove m s) + 1
    by zero z h = absurd (none-some e (sym (ap (λ (k : fin.FinMap nat_cmp Entry). fin.get k s) (fin.empty_of_len m z)
        ∙ fin.get-empty nat_cmp s) ∙ there))
    by (suc n) z h = omega arith

pub said_one : (b d : Baton) (t u : Pools) (note : Note) (x : List ℕ) → d.path ≡ b.path → d.pool.0 ≡ b.pool.0
    → d.notes.items ≡ b.notes.items ++ note ∷ []
    → NotesText note (length (strings_at t b.pool.0)) b.text d.text → d.base ≡ b.base → u ≡ pushed t b.pool.0 x
    → BatonSaid note (x ∷ []) b t d u
said_one b d t u note x path pool notes text base is = record {
  base = base;
  path = path;
  same_pool = pool;
  notes = notes;
  text = text;
  count = λ e live. ap (λ (v : Pools). fin.len v.live) is ∙ len_pushed t b.pool.0 x e live;
  own = ap (λ (v : Pools). pool_at v b.pool.0) is ∙ own_one t b.pool.0 x;
  others = λ s n. ap (λ (v : Pools). pool_at v s) is ∙ others_one t b.pool.0 x s n;
  root = ap (λ (v : Pools). v.root) is;
}

pub said_two : (b d : Baton) (t u : Pools) (note : Note) (x y : List ℕ) → d.path ≡ b.path → d.pool.0 ≡ b.pool.0
    → d.notes.items ≡ b.notes.items ++ note ∷ []
    → NotesText note (length (strings_at t b.pool.0)) b.text d.text → d.base ≡ b.base
    → u ≡ pushed (pushed t b.pool.0 x) b.pool.0 y → BatonSaid note (x ∷ y ∷ []) b t d u
said_two b d t u note x y path pool notes text base is = record {
  base = base;
  path = path;
  same_pool = pool;
  notes = notes;
  text = text;
  count = λ e live.
      ap (λ (v : Pools). fin.len v.live) is
      ∙ len_pushed (pushed t b.pool.0 x) b.pool.0 y (record {
        parent = parent_of (pool_at t b.pool.0);
        strings =
            strings_at t b.pool.0 ++ x ∷ [];
      }) (own_one t b.pool.0 x)
      ∙ len_pushed t b.pool.0 x e live;
  own =
      ap (λ (v : Pools). pool_at v b.pool.0) is ∙ own_one (pushed t b.pool.0 x) b.pool.0 y
      ∙ ap (λ (o : Option Entry). Some (record { parent = parent_of o; strings = strings_of_pool o ++ y ∷ [] })) (own_one t b.pool.0 x)
      ∙ ap (λ (l : List (List ℕ)). Some (record { parent = parent_of (pool_at t b.pool.0); strings = l }))
      (append_assoc (strings_at t b.pool.0) (x ∷ []) (y ∷ []));
  others = λ s n. ap (λ (v : Pools). pool_at v s) is ∙ others_one (pushed t b.pool.0 x) b.pool.0 y s n ∙ others_one t b.pool.0 x s n;
  root = ap (λ (v : Pools). v.root) is;
}

pub begun : (b : Baton) (t u : Pools) (beneath : ℕ) (p : Path) (text : List ℕ) → b.path ≡ p → b.notes.items ≡ [] → b.text ≡ None
    → b.pool.0 ≡ t.next → pool_at t t.next ≡ None → t.next ≢ t.root
    → ((q : ℕ) → parent_of (pool_at (created t beneath) q) ≢ Some t.next)
    → u ≡ pushed (created t beneath) t.next text → text ≡ path_key p → BatonBegun beneath p t b u
begun b t u beneath p text path notes none pool fresh apart childless is spelled = record {
  path = path;
  notes = notes;
  text = none;
  count =
      ap (λ (v : Pools). fin.len v.live) is
      ∙ len_pushed (created t beneath) t.next text (pool_entry beneath []) (inserted_here t.live t.next (pool_entry beneath []))
      ∙ len_created t beneath fresh;
  fresh = ap (pool_at t) pool ∙ fresh;
  made =
      (λ i. pool_at (is i) (pool i)) ∙ own_one (created t beneath) t.next text
      ∙ ap (λ (o : Option Entry). Some (record { parent = parent_of o; strings = strings_of_pool o ++ text ∷ [] }))
      (inserted_here t.live t.next (pool_entry beneath []))
      ∙ ap (λ (l : List ℕ). Some (pool_entry beneath (l ∷ []))) spelled;
  others = λ s n.
      ap (λ (v : Pools). pool_at v s) is ∙ others_one (created t beneath) t.next text s (λ e. n (e ∙ sym pool))
      ∙ inserted_away t.live t.next (pool_entry beneath []) s (λ e. n (e ∙ sym pool));
  root = ap (λ (v : Pools). v.root) is;
  apart = λ e. apart (sym pool ∙ e);
  leaf = λ q e. childless q (sym (ap (λ (v : Pools). parent_of (pool_at v q)) is ∙ parents_one (created t beneath) t.next text q) ∙ e
      ∙ ap Some pool);
}

-- ---- a pool without pools below it

no_beneath : (t : Pools) (s : ℕ) → IsLeaf t s → (n q : ℕ) → IsAbove (pool_at t) s n q → ⊥
no_beneath t s leaf zero q h = leaf q h
no_beneath t s leaf (suc n) q h = no_beneath t s leaf n h.0 h.2

pub leaf_gone : (t u : Pools) (s : ℕ) (e : Entry) → pool_at t s ≡ Some e → IsLeaf t s → IsDestroyed t u s → PoolGone s t u
leaf_gone t u s e live leaf d = record {
  gone = d.gone;
  others = others;
  root = d.rest.root;
  count = len_removed t.live s e live ∙ ap (λ (m : fin.FinMap nat_cmp Entry). fin.len m + 1) (sym same);
}
  where
    others : (q : ℕ) → q ≢ s → pool_at u q ≡ pool_at t q
    others q n = d.rest.others q n (λ b. no_beneath t s leaf b.0 q b.1)

    same : u.live ≡ fin.remove t.live s
    same = fin.same_map nat_cmp_total fin.nat_cmp-IsAntisymmetric u.live (fin.remove t.live s) (λ q. elim (cases_eq q s) [
      | inl is ↦ ap (pool_at u) is ∙ d.gone ∙ sym (ap (fin.get (fin.remove t.live s)) is ∙ removed_here t.live s)
      | inr n ↦ others q n ∙ sym (removed_away t.live s q n)
    ])

-- the first pool is emptied: nothing else is left, since all others lie below it
pub one_left : (t u : Pools) (e : Entry) → pool_at t t.root ≡ Some e → ((s : ℕ) (x : Entry) → pool_at t s ≡ Some x → s ≢ t.root
    → IsBeneath (pool_at t) t.root s)
    → IsCleared t u t.root → fin.len u.live ≡ 1
one_left t u e live beneath d =
    ap (λ (m : fin.FinMap nat_cmp Entry). fin.len m) same
    ∙ fin.len-insert nat_cmp_total fin.empty t.root alone
    ∙ (λ i. cond (is_some (fin.get-empty {X = Entry} nat_cmp t.root i)) (fin.len-empty nat_cmp Entry i) (fin.len-empty nat_cmp Entry i + 1))
  where
    alone : Entry
    alone = record { parent = parent_of (pool_at t t.root); strings = [] }

    others : (q : ℕ) → q ≢ t.root → pool_at u q ≡ None
    others q n = by (pool_at t q) refl
      where
        by : (o : Option Entry) → pool_at t q ≡ o → pool_at u q ≡ None
        by (Some x) f = d.beneath q (beneath q x f n)
        by None f = d.rest.others q n (nothing f) ∙ f
          where
            up : (k : ℕ) → pool_at t q ≡ None → IsAbove (pool_at t) t.root k q → ⊥
            up zero g h = none-some t.root (sym (ap parent_of g) ∙ h)
            up (suc k) g h = none-some h.0 (sym (ap parent_of g) ∙ h.1)

            nothing : pool_at t q ≡ None → IsBeneath (pool_at t) t.root q → ⊥
            nothing g b = up b.0 g b.1

    same : u.live ≡ fin.insert fin.empty t.root alone
    same = fin.same_map nat_cmp_total fin.nat_cmp-IsAntisymmetric u.live (fin.insert fin.empty t.root alone)
        (λ q. elim (cases_eq q t.root) [
          | inl is ↦ ap (pool_at u) is ∙ d.emptied ∙ sym (ap (fin.get (fin.insert fin.empty t.root alone)) is
              ∙ inserted_here fin.empty t.root alone)
          | inr n ↦ others q n ∙ sym (inserted_away fin.empty t.root alone q n ∙ fin.get-empty nat_cmp q)
        ])

abbrev pub refused : PoolFault → Result (Unit {0}) PoolFault
refused f = Err f

-- it is destroyed
pub not_refused : (t : Pools) (s : ℕ) (e : Entry) (f : PoolFault) → pool_at t s ≡ Some e → s ≢ t.root
    → Settles (destroy_fault t s) (refused f) → ⊥
not_refused t s e f live apart h = by (pool_at t s) live (nat_eq s t.root) refl h
  where
    by : (o : Option Entry) → o ≡ Some e → (b : Bool) → nat_eq s t.root ≡ b → Settles (fault_if_live o (λ _. cond b (Some IsRoot) None))
        (refused f) → ⊥
    by None k b q g = none k
      where
        none : None ≡ Some e → ⊥
        none x = cc
    by (Some x) k true q g = apart (eqb-true s t.root q)
    by (Some x) k false q g = true≢false (sym g)

pub not_uncleared : (t : Pools) (e : Entry) (f : PoolFault) → pool_at t t.root ≡ Some e → Settles (clear_fault t t.root) (refused f) → ⊥
not_uncleared t e f live h = by (pool_at t t.root) live h
  where
    by : (o : Option Entry) → o ≡ Some e → Settles (fault_if_live o (λ _. None)) (refused f) → ⊥
    by None k g = none-some e k
    by (Some x) k g = true≢false (sym g)
