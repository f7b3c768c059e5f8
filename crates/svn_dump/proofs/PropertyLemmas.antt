-- Property sections, entry by entry.
use Rattle.std.proofs.Common.{◌≡◌, ℕ, zero, suc, ◌<◌, ◌≤◌, Bool, true, false, List, [], ◌∷◌, ◌++◌, length, Result, Ok, Err, refl, sym, ap, subst, ◌∙◌, append_assoc, append-nil, arith}
use Rattle.std.proofs.lemmas.List.Sums.{fold_push}
use Rattle.svn_types.specs.Pairs.{with_value}
use Rattle.svn_types.specs.Props.{PropChange, with_changes}
use Rattle.svn_dump.specs.declared.fault.Reason.{Reason}
use Rattle.svn_dump.specs.declared.fault.DumpFault.{DumpFault}
use Rattle.svn_dump.specs.declared.fault.DumpFault.TheVariants as faults
use Rattle.svn_dump.specs.Reading.{◌>>=◌, Meets}
use Rattle.svn_dump.specs.Properties.{change_at, changes_at, is_end}
use Rattle.svn_dump.proofs.Sequences.{meets_first}

-- changes before those that are read
abbrev pub with_first : List PropChange → Result (List PropChange) Reason → Result (List PropChange) Reason
with_first first (Ok more) = Ok (first ++ more)
with_first first (Err reason) = Err reason

-- what all gives is the changes in front, and then those that the rest gives
pub record GoesOn (removes : Bool) (front : List PropChange) (rest : List ℕ) (all : Result (List PropChange) Reason) : Type 0 where
  pub most : ℕ
  pub bounded : length rest ≤ most
  pub reads : with_first front (changes_at removes most rest) ≡ all

with_no_first : (read : Result (List PropChange) Reason) → with_first [] read ≡ read
with_no_first (Ok more) = refl
with_no_first (Err reason) = refl

-- before the first
pub at_first : (removes : Bool) (section : List ℕ) → GoesOn removes [] section (changes_at removes (length section) section)
at_first removes section = record {
  most = length section;
  bounded = omega arith;
  reads = with_no_first (changes_at removes (length section) section);
}

empty : (rest : List ℕ) → length rest ≤ 0 → rest ≡ []
empty [] h = refl
empty (b ∷ rest) h = absurd (omega (arith, h))

read_none : (removes : Bool) (x : PropChange × List ℕ) → change_at removes [] ≡ Ok x → ⊥
read_none true x e = cc
read_none false x e = cc

pushed : (front : List PropChange) (c : PropChange) (read : Result (List PropChange) Reason)
    → with_first front (read >>= λ more. Ok (c ∷ more)) ≡ with_first (front ++ c ∷ []) read
pushed front c (Ok more) = ap (λ l. Ok l) (sym (append_assoc front (c ∷ []) more))
pushed front c (Err reason) = refl

next_read : (removes : Bool) (most : ℕ) (rest : List ℕ) (first : PropChange × List ℕ) → is_end rest ≡ false → change_at removes rest ≡ Ok first
    → changes_at removes (suc most) rest ≡ (changes_at removes most first.1 >>= λ more. Ok (first.0 ∷ more))
unfolding changes_at
next_read removes most rest first e read = rw (e, read) refl

-- one more change was read
pub one_change : (removes : Bool) (front : List PropChange) (rest : List ℕ) (all : Result (List PropChange) Reason) (c : PropChange) (after : List ℕ)
    → GoesOn removes front rest all → is_end rest ≡ false → change_at removes rest ≡ Ok (c, after) → length after < length rest
    → GoesOn removes (front ++ c ∷ []) after all
one_change removes front rest all c after g e read shorter = by_most g.most g.bounded g.reads
  where
    by_most : (most : ℕ) → length rest ≤ most → with_first front (changes_at removes most rest) ≡ all → GoesOn removes (front ++ c ∷ []) after all
    by_most zero bounded reads =
        absurd (read_none removes (c, after) (subst (λ (bs : List ℕ). change_at removes bs ≡ Ok (c, after)) (empty rest bounded) read))
    by_most (suc most) bounded reads = record {
      most = most;
      bounded = omega (arith, shorter, bounded);
      reads = sym (pushed front c (changes_at removes most after)) ∙ ap (with_first front) (sym (next_read removes most rest (c, after) e read)) ∙ reads;
    }

end_read : (removes : Bool) (most : ℕ) (rest : List ℕ) → is_end rest ≡ true → changes_at removes (suc most) rest ≡ Ok []
unfolding changes_at
end_read removes most rest e = rw e refl

not_end : is_end [] ≡ true → ⊥
not_end e = cc

-- the end was read
pub no_change : (removes : Bool) (front : List PropChange) (rest : List ℕ) (all : Result (List PropChange) Reason) → GoesOn removes front rest all
    → is_end rest ≡ true → all ≡ Ok front
no_change removes front rest all g e = by_most g.most g.bounded g.reads
  where
    by_most : (most : ℕ) → length rest ≤ most → with_first front (changes_at removes most rest) ≡ all → all ≡ Ok front
    by_most zero bounded reads = absurd (not_end (subst (λ (bs : List ℕ). is_end bs ≡ true) (empty rest bounded) e))
    by_most (suc most) bounded reads =
        sym reads ∙ ap (with_first front) (end_read removes most rest e) ∙ ap (λ l. Ok l) (append-nil front)

fault_read : (removes : Bool) (most : ℕ) (rest : List ℕ) → is_end rest ≡ false
    → changes_at removes (suc most) rest ≡ (change_at removes rest >>= λ first. changes_at removes most first.1 >>= λ more. Ok (first.0 ∷ more))
unfolding changes_at
fault_read removes most rest e = rw e refl

-- a fault in place of a change is one in place of the list
abbrev same_fault : Result (PropChange × List ℕ) Reason → Result (List PropChange) Reason
same_fault (Ok change) = Ok []
same_fault (Err reason) = Err reason

fault_at_none : (removes : Bool) (rest : List ℕ) (e : DumpFault) → length rest ≤ 0 → Meets e (change_at removes rest)
    → Meets e (changes_at removes zero rest)
unfolding changes_at
fault_at_none removes rest e bounded h =
    by_fault removes e (subst (λ (bs : List ℕ). Meets e (change_at removes bs)) (empty rest bounded) h)
  where
    by_fault : (removes : Bool) (e : DumpFault) → Meets e (change_at removes []) → Meets e (changes_at removes zero rest)
    by_fault true (faults.Refused reason) h = ap same_fault h
    by_fault false (faults.Refused reason) h = ap same_fault h
    by_fault removes faults.Read h = absurd h
    by_fault removes faults.Memory h = tt

meets_after : (e : DumpFault) (front : List PropChange) (read : Result (List PropChange) Reason) → Meets e read → Meets e (with_first front read)
meets_after e front (Err reason) h = h
meets_after (faults.Refused reason) front (Ok more) h = cc
meets_after faults.Read front (Ok more) h = absurd h
meets_after faults.Memory front (Ok more) h = tt

-- a change that can't be read
pub bad_change : (removes : Bool) (front : List PropChange) (rest : List ℕ) (all : Result (List PropChange) Reason) (e : DumpFault)
    → GoesOn removes front rest all → is_end rest ≡ false → Meets e (change_at removes rest) → Meets e all
bad_change removes front rest all e g h read = by_most g.most g.bounded g.reads
  where
    by_most : (most : ℕ) → length rest ≤ most → with_first front (changes_at removes most rest) ≡ all → Meets e all
    by_most zero bounded reads =
        subst (λ r. Meets e r) reads (meets_after e front (changes_at removes zero rest) (fault_at_none removes rest e bounded read))
    by_most (suc most) bounded reads =
        let whole : Meets e (changes_at removes (suc most) rest) =
        subst (λ r. Meets e r) (sym (fault_read removes most rest h)) (meets_first e (change_at removes rest) _ read) in
        subst (λ r. Meets e r) reads (meets_after e front (changes_at removes (suc most) rest) whole)

-- the properties after one more change
pub one_more_set : (front : List PropChange) (c : PropChange) → with_changes [] (front ++ c ∷ []) ≡ with_value (with_changes [] front) c.0 c.1
one_more_set front c = fold_push (λ ps c. with_value ps c.0 c.1) [] front c
