-- Entries of a directory that are written one after another.
use Rattle.std.proofs.Common.{ℕ, List, [], ◌∷◌, ◌++◌, append_assoc, append-nil, refl, sym, subst}
use Rattle.svn_types.specs.Names.{Path}
use Rattle.svn_wire.specs.Writing.{text_bytes}
use Rattle.svn_replies.specs.declared.served.Served.{Served}
use Rattle.svn_replies.specs.Answers.{listed}
use Rattle.svn_replies.specs.NodeBytes.{IsEntry, AreEntries}

-- with what is written of the entries that are left all are written
pub record AreBegun (s : Served) (r : ℕ) (p : Path) (left all : List (List ℕ × ℕ)) (done : List ℕ) : Type 0 where
  pub go_on : (rest : List ℕ) → AreEntries s r p left rest → AreEntries s r p all (done ++ rest)

pub begun : (s : Served) (r : ℕ) (p : Path) (all : List (List ℕ × ℕ)) → AreBegun s r p all all []
begun s r p all = record { go_on = λ rest h. h }

-- one more
pub begun_more : (s : Served) (r : ℕ) (p : Path) (e : List ℕ × ℕ) (left all : List (List ℕ × ℕ)) (done one : List ℕ) → AreBegun s r p (e ∷ left) all done
    → IsEntry s r (p ++ e.0 ∷ []) e.1 one → AreBegun s r p left all (done ++ listed (text_bytes e.0 ++ one))
begun_more s r p e left all done one h entry = record {
  go_on = λ rest more.
      subst (AreEntries s r p all) (sym (append_assoc done (listed (text_bytes e.0 ++ one)) rest))
      (h.go_on (listed (text_bytes e.0 ++ one) ++ rest) (one, rest, entry, more, refl));
}

pub all_written : (s : Served) (r : ℕ) (p : Path) (all : List (List ℕ × ℕ)) (done : List ℕ) → AreBegun s r p [] all done → AreEntries s r p all done
all_written s r p all done h = subst (AreEntries s r p all) (append-nil done) (h.go_on [] refl)
