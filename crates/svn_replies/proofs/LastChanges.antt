-- A last change, written piece after piece.
use Rattle.std.proofs.Common.{◌≡◌, ℕ, List, ◌++◌, codes, Option, Some, ap, ◌∙◌}
use Rattle.std.specs.Fmt.{decimal}
use Rattle.svn_wire_calls.specs.declared.entered.Entered.{Entered}
use Rattle.svn_replies.specs.Answers.{pair_bytes, known_pair}
use Rattle.svn_replies.specs.NodeBytes.{change_pairs}
use Rattle.svn_replies.proofs.Appends.{three_appended}

pub change_appended : (old m1 m2 new : List ℕ) (told : Entered) (date author : Option (List ℕ))
    → m1 ≡ old ++ pair_bytes (codes "svn:entry:committed-rev") (decimal told.rev) → m2 ≡ m1 ++ known_pair (codes "svn:entry:committed-date") date
    → new ≡ m2 ++ known_pair (codes "svn:entry:last-author") author → date ≡ told.date → author ≡ told.author → new ≡ old ++ change_pairs (Some told)
change_appended old m1 m2 new told date author first second third dated by =
    three_appended old (pair_bytes (codes "svn:entry:committed-rev") (decimal told.rev)) (known_pair (codes "svn:entry:committed-date") told.date)
    (known_pair (codes "svn:entry:last-author") told.author) m1 m2 new first
    (second ∙ ap (λ (d : Option (List ℕ)). m1 ++ known_pair (codes "svn:entry:committed-date") d) dated)
    (third ∙ ap (λ (a : Option (List ℕ)). m2 ++ known_pair (codes "svn:entry:last-author") a) by)
