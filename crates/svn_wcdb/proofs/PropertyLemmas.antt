-- Lists of names and values, pair by pair.
use Rattle.std.proofs.Common.{◌≡◌, ℕ, zero, suc, ◌<◌, ◌≤◌, true, false, List, [], ◌∷◌, ◌++◌, length, Result, Ok, Err, refl, sym, ap, subst, ◌∙◌, append_assoc, append-nil, arith}
use Rattle.std.proofs.lemmas.List.Sums.{fold_push}
use Rattle.svn_types.specs.Pairs.{with_value}
use Rattle.svn_types.specs.Props.{PropChange, with_changes}
use Rattle.svn_wcdb.specs.declared.fault.Reason.{Reason}
use Rattle.svn_wcdb.specs.declared.fault.WcdbFault.{WcdbFault}
use Rattle.svn_wcdb.specs.declared.fault.WcdbFault.TheVariants as faults
use Rattle.svn_wcdb.specs.Reading.{◌>>=◌, Fails}
use Rattle.svn_wcdb.specs.Skels.{item_at, is_end}
use Rattle.svn_wcdb.specs.Properties.{pair_at, pairs_at}
use Rattle.svn_wcdb.proofs.ReadingLemmas.{fails_first}

-- pairs before those that are read
abbrev pub with_first : List PropChange → Result (List PropChange) Reason → Result (List PropChange) Reason
with_first first (Ok more) = Ok (first ++ more)
with_first first (Err reason) = Err reason

-- what all gives is the pairs in front, and then those that the rest gives
pub record GoesOn (front : List PropChange) (rest : List ℕ) (all : Result (List PropChange) Reason) : Type 0 where
  pub most : ℕ
  pub bounded : length rest ≤ most
  pub reads : with_first front (pairs_at most rest) ≡ all

with_no_first : (read : Result (List PropChange) Reason) → with_first [] read ≡ read
with_no_first (Ok more) = refl
with_no_first (Err reason) = refl

-- before the first
pub at_first : (list : List ℕ) → GoesOn [] list (pairs_at (length list) list)
at_first list = record {
  most = length list;
  bounded = omega arith;
  reads = with_no_first (pairs_at (length list) list);
}

empty : (rest : List ℕ) → length rest ≤ 0 → rest ≡ []
empty [] h = refl
empty (b ∷ rest) h = absurd (omega (arith, h))

read_none : (x : PropChange × List ℕ) → pair_at (item_at []) ≡ Ok x → ⊥
read_none x e = cc

pushed : (front : List PropChange) (c : PropChange) (read : Result (List PropChange) Reason)
    → with_first front (read >>= λ more. Ok (c ∷ more)) ≡ with_first (front ++ c ∷ []) read
pushed front c (Ok more) = ap (λ l. Ok l) (sym (append_assoc front (c ∷ []) more))
pushed front c (Err reason) = refl

next_read : (most : ℕ) (rest : List ℕ) (first : PropChange × List ℕ) → is_end rest ≡ false → pair_at (item_at rest) ≡ Ok first
    → pairs_at (suc most) rest ≡ (pairs_at most first.1 >>= λ more. Ok (first.0 ∷ more))
unfolding pairs_at
next_read most rest first e read = rw (e, read) refl

-- one more pair was read
pub one_pair : (front : List PropChange) (rest : List ℕ) (all : Result (List PropChange) Reason) (c : PropChange) (after : List ℕ)
    → GoesOn front rest all → is_end rest ≡ false → pair_at (item_at rest) ≡ Ok (c, after) → length after < length rest
    → GoesOn (front ++ c ∷ []) after all
one_pair front rest all c after g e read shorter = by_most g.most g.bounded g.reads
  where
    by_most : (most : ℕ) → length rest ≤ most → with_first front (pairs_at most rest) ≡ all → GoesOn (front ++ c ∷ []) after all
    by_most zero bounded reads =
        absurd (read_none (c, after) (subst (λ (bs : List ℕ). pair_at (item_at bs) ≡ Ok (c, after)) (empty rest bounded) read))
    by_most (suc most) bounded reads = record {
      most = most;
      bounded = omega (arith, shorter, bounded);
      reads = sym (pushed front c (pairs_at most after)) ∙ ap (with_first front) (sym (next_read most rest (c, after) e read)) ∙ reads;
    }

end_read : (most : ℕ) (rest : List ℕ) → is_end rest ≡ true → pairs_at (suc most) rest ≡ Ok []
unfolding pairs_at
end_read most rest e = rw e refl

not_end : is_end [] ≡ true → ⊥
not_end e = cc

-- the end was read
pub no_pair : (front : List PropChange) (rest : List ℕ) (all : Result (List PropChange) Reason) → GoesOn front rest all → is_end rest ≡ true
    → all ≡ Ok front
no_pair front rest all g e = by_most g.most g.bounded g.reads
  where
    by_most : (most : ℕ) → length rest ≤ most → with_first front (pairs_at most rest) ≡ all → all ≡ Ok front
    by_most zero bounded reads = absurd (not_end (subst (λ (bs : List ℕ). is_end bs ≡ true) (empty rest bounded) e))
    by_most (suc most) bounded reads = sym reads ∙ ap (with_first front) (end_read most rest e) ∙ ap (λ l. Ok l) (append-nil front)

fault_read : (most : ℕ) (rest : List ℕ) → is_end rest ≡ false
    → pairs_at (suc most) rest ≡ (pair_at (item_at rest) >>= λ first. pairs_at most first.1 >>= λ more. Ok (first.0 ∷ more))
unfolding pairs_at
fault_read most rest e = rw e refl

-- a fault in place of a pair is one in place of the list
abbrev same_fault : Result (PropChange × List ℕ) Reason → Result (List PropChange) Reason
same_fault (Ok pair) = Ok []
same_fault (Err reason) = Err reason

fault_at_none : (rest : List ℕ) (e : WcdbFault) → length rest ≤ 0 → Fails e (pair_at (item_at rest)) → Fails e (pairs_at zero rest)
unfolding pairs_at
fault_at_none rest e bounded h = by_fault e (subst (λ (bs : List ℕ). Fails e (pair_at (item_at bs))) (empty rest bounded) h)
  where
    by_fault : (e : WcdbFault) → Fails e (pair_at (item_at [])) → Fails e (pairs_at zero rest)
    by_fault (faults.Refused reason) h = ap same_fault h
    by_fault faults.Memory h = tt

fails_after : (e : WcdbFault) (front : List PropChange) (read : Result (List PropChange) Reason) → Fails e read → Fails e (with_first front read)
fails_after e front (Err reason) h = h
fails_after (faults.Refused reason) front (Ok more) h = cc
fails_after faults.Memory front (Ok more) h = tt

-- a pair that can't be read
pub bad_pair : (front : List PropChange) (rest : List ℕ) (all : Result (List PropChange) Reason) (e : WcdbFault) → GoesOn front rest all
    → is_end rest ≡ false → Fails e (pair_at (item_at rest)) → Fails e all
bad_pair front rest all e g h read = by_most g.most g.bounded g.reads
  where
    by_most : (most : ℕ) → length rest ≤ most → with_first front (pairs_at most rest) ≡ all → Fails e all
    by_most zero bounded reads =
        subst (λ r. Fails e r) reads (fails_after e front (pairs_at zero rest) (fault_at_none rest e bounded read))
    by_most (suc most) bounded reads =
        let whole : Fails e (pairs_at (suc most) rest) =
        subst (λ r. Fails e r) (sym (fault_read most rest h)) (fails_first e (pair_at (item_at rest)) _ read) in
        subst (λ r. Fails e r) reads (fails_after e front (pairs_at (suc most) rest) whole)

-- the properties after one more pair
pub one_more_set : (front : List PropChange) (c : PropChange) → with_changes [] (front ++ c ∷ []) ≡ with_value (with_changes [] front) c.0 c.1
one_more_set front c = fold_push (λ ps c. with_value ps c.0 c.1) [] front c
