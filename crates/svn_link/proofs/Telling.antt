-- Each step of the notice keeps its rule.
use Rattle.std.proofs.Common.{◌≡◌, ℕ, zero, suc, ◌<◌, true, false, List, [], ◌∷◌, Option, Some, None, set, sym, refl, ◌∙◌, subst, ⊎_elim}
use Rattle.std.proofs.Common.{arith}
use mathlib.Core.Option.{some}
use lib.ListN.{get_elem?}
use Rattle.atomic_table.proofs.Lists.{at_snoc}
use Rattle.crossbeam_utils.specs.Register.{Turns, Forks, Merges}
use Rattle.std.proofs.lemmas.Bool.{false≢true}
use Rattle.svn_link.specs.declared.word.News.{News}
use Rattle.svn_link.specs.Notice.{news, number_of, number_in, IsNoneOrSame, Knows, IsNoticed, IsTold, IsSeen, IsAgreed}
use Rattle.svn_link.proofs.Views.{each_set, was_there}

some_number : (n : ℕ) → 0 < n → number_of n ≡ Some n
some_number zero h = absurd (omega arith)
some_number (suc n) h = refl

-- where nothing was reported, nothing was seen
nothing_seen : (seen told : Option ℕ) → IsNoneOrSame seen told → told ≡ None → (other : Option ℕ) → IsNoneOrSame seen other
nothing_seen None told same none other = tt
nothing_seen (Some n) told same none other = absurd (none_is n (sym same ∙ none))
  where
    none_is : (n : ℕ) → Some n ≡ None → ⊥
    none_is n e = cc

same_refl : (o : Option ℕ) → IsNoneOrSame o o
same_refl None = tt
same_refl (Some n) = refl

-- making the notice
pub starts : (words : List ℕ) → number_in words ≡ None → IsNoticed words (news true None None ∷ [])
starts words none =
    record {
      teller = 0;
      each =
          λ j w e. ⊎_elim (λ was. absurd (nowhere j w was)) (λ same. subst (Knows 0 (number_in words) j) same (mine j (at_zero j w e)))
          (at_snoc [] (news true None None) w j e);
    }
  where
    nowhere : (j : ℕ) (w : News) → get_elem? [] j ≡ some w → ⊥
    nowhere j w e = cc

    at_zero : (j : ℕ) (w : News) → get_elem? (news true None None ∷ []) j ≡ some w → j ≡ 0
    at_zero zero w e = refl
    at_zero (suc j) w e = absurd cc

    mine : (j : ℕ) → j ≡ 0 → Knows 0 (number_in words) j (news true None None)
    mine j at = record { tells = λ _. (at, sym none); sees = tt }

-- the store
pub tells : (pass : ℕ) (v : News) (n : ℕ) → v.tells ≡ true → v.told ≡ None → Turns IsNoticed pass v (λ _. n ∷ []) IsTold
tells pass v n may none words views rule at =
    let mine = rule.each pass v at in
    let known = mine.tells may in
    let nothing : number_in words ≡ None = sym known.1 ∙ none in
    let w = news v.tells (number_of n) v.seen in (
      w,
      record {
        teller = rule.teller;
        each = each_set (Knows rule.teller (number_of n)) views pass w
            (record { tells = λ _. (known.0, refl); sees = nothing_seen v.seen (number_in words) mine.sees nothing (number_of n) })
            (λ j u other e. record {
              tells = λ t. absurd (other (((rule.each j u e).tells t).0 ∙ sym known.0));
              sees = nothing_seen u.seen (number_in words) (rule.each j u e).sees nothing (number_of n);
            });
      },
      refl,
    )

-- a load
pub sees : (pass : ℕ) (v : News) → Turns IsNoticed pass v (λ x. x) IsSeen
sees pass v words views rule at =
    let mine = rule.each pass v at in
    let w = news v.tells v.told (number_in words) in (
      w,
      record {
        teller = rule.teller;
        each = each_set (Knows rule.teller (number_in words)) views pass w
            (record { tells = mine.tells; sees = same_refl (number_in words) })
            (λ j u other e. rule.each j u e);
      },
      (refl, mine.sees),
    )

-- a load by the joined pass
pub agrees : (pass : ℕ) (v : News) → v.tells ≡ true → Turns IsNoticed pass v (λ x. x) IsAgreed
agrees pass v may words views rule at =
    let mine = rule.each pass v at in
    let known = mine.tells may in (
      v,
      record {
        teller = rule.teller;
        each = each_set (Knows rule.teller (number_in words)) views pass v mine (λ j u other e. rule.each j u e);
      },
      (known.1, subst (λ o. IsNoneOrSame v.seen o) (sym known.1) mine.sees),
    )

-- a pass is cut so that the new one may not tell
pub cuts : (pass : ℕ) (v left right : News) → left.tells ≡ v.tells → left.told ≡ v.told → left.seen ≡ None → right.tells ≡ false
    → right.seen ≡ v.seen → Forks IsNoticed pass v left right
cuts pass v left right tells told blind quiet seen words views rule at =
    let mine = rule.each pass v at in
    record {
      teller = rule.teller;
      each = λ j u e. ⊎_elim
          (λ was. each_set (Knows rule.teller (number_in words)) views pass left
          (record {
            tells = λ t. let known = mine.tells (sym tells ∙ t) in (known.0, told ∙ known.1);
            sees = subst (λ o. IsNoneOrSame o (number_in words)) (sym blind) tt;
          })
          (λ i w other at_i. rule.each i w at_i) j u was)
          (λ (same : right ≡ u). subst (Knows rule.teller (number_in words) j) same (record {
            tells = λ t. absurd (false≢true (sym quiet ∙ t));
            sees = subst (λ o. IsNoneOrSame o (number_in words)) (sym seen) mine.sees;
          }))
          (at_snoc (set views pass left) right u j e);
    }

-- joining the passes
pub joins : (pass : ℕ) (v : News) (other : ℕ) (w : News) → v.tells ≡ true
    → Merges IsNoticed pass v other w (news true v.told w.seen) (news false None None)
joins pass v other w may words views rule at apart there =
    let both = news true v.told w.seen in
    let mine = (rule.each pass v at).tells may in
    let was = was_there views pass other both w apart there in
    let theirs = (rule.each other w was).sees in
    record {
      teller = rule.teller;
      each = each_set (Knows rule.teller (number_in words)) (set views pass both) other (news false None None)
          (record { tells = λ t. absurd (false≢true t); sees = tt })
          (λ j u _ e. each_set (Knows rule.teller (number_in words)) views pass both (record { tells = λ _. mine; sees = theirs })
          (λ i y _ at_i. rule.each i y at_i) j u e);
    }
