-- Locations that are written one after another.
use Rattle.std.proofs.Common.{◌≡◌, ℕ, List, [], ◌∷◌, ◌++◌, Some, None, append_assoc, append-nil, refl, sym, subst}
use Rattle.std.proofs.lemmas.Option.{same_Some}
use Rattle.svn_wire.specs.declared.token.Token.{Token}
use Rattle.svn_wire.specs.declared.token.Token.TheVariants.{Open, Close, Number, Word, Text}
use Rattle.svn_wire.specs.Fields.{number_field}
use Rattle.svn_commands.specs.declared.history.Segment.{Segment}
use Rattle.svn_replies.specs.declared.served.Served.{Served}
use Rattle.svn_commands.specs.Locations.{Asked, IsLocation, AreLocationsIn, revs_of}

-- ---- the numbers at the front of tokens

pub next_rev : (ts : List Token) (r : ℕ) (rest : List Token) → Some (r, rest) ≡ number_field ts → ts ≡ Number r ∷ rest
next_rev [] r rest h = cc
next_rev (Open ∷ ts) r rest h = cc
next_rev (Close ∷ ts) r rest h = cc
next_rev (Number n ∷ ts) r rest h =
    let same = same_Some (r, rest) (n, ts) h in
    let numbers : ◌≡◌ {A = List Token} (Number r ∷ rest) (Number n ∷ ts) = λ i. Number (same i).0 ∷ (same i).1 in
    sym numbers
next_rev (Word word ∷ ts) r rest h = cc
next_rev (Text text ∷ ts) r rest h = cc

pub no_rev : (ts : List Token) → None ≡ number_field ts → revs_of ts ≡ []
no_rev [] h = refl
no_rev (Open ∷ ts) h = refl
no_rev (Close ∷ ts) h = refl
no_rev (Number n ∷ ts) h = cc
no_rev (Word word ∷ ts) h = refl
no_rev (Text text ∷ ts) h = refl

-- ---- their locations

-- with what is written of the revisions that are left all are written
pub record AreBegun (s : Served) (asked : Asked) (segments : List Segment) (left all : List ℕ) (done : List ℕ) : Type 0 where
  pub go_on : (rest : List ℕ) → AreLocationsIn s asked segments left rest → AreLocationsIn s asked segments all (done ++ rest)

module _ (s : Served) (asked : Asked) (segments : List Segment) where
  pub begun : (all : List ℕ) → AreBegun s asked segments all all []
  begun all = record { go_on = λ rest h. h }

  -- one more
  pub begun_more : (r : ℕ) (left all done one : List ℕ) → AreBegun s asked segments (r ∷ left) all done → IsLocation s asked segments r one
      → AreBegun s asked segments left all (done ++ one)
  begun_more r left all done one h location = record {
    go_on = λ rest more.
        subst (AreLocationsIn s asked segments all) (sym (append_assoc done one rest)) (h.go_on (one ++ rest) (one, rest, location, more, refl));
  }

  pub all_written : (all done : List ℕ) → AreBegun s asked segments [] all done → AreLocationsIn s asked segments all done
  all_written all done h = subst (AreLocationsIn s asked segments all) (append-nil done) (h.go_on [] refl)
