-- What is written in the opening.
use Rattle.std.proofs.Common.{◌≡◌, ℕ, List, ◌++◌, codes, append_assoc}
use Rattle.svn_wire.specs.Writing.{text_bytes}
use Rattle.svn_ask.specs.Openings.{response}

-- the parts of the response are put at the end of the bytes, one after the other
pub response_parts : (url client out a b c d : List ℕ) → a ≡ out ++ codes "( 2 ( edit-pipeline ) " → b ≡ a ++ text_bytes url
    → c ≡ b ++ text_bytes client → d ≡ c ++ codes "( ) ) " → d ≡ out ++ response url client
unfolding response
response_parts url client out a b c d h1 h2 h3 h4 = rw (h4, h3, h2, h1) (simp append_assoc)
