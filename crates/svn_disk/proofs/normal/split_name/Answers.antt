use Rattle.std.proofs.Common.{◌≡◌, ℕ, inr, drop, length, ap, ◌∙◌, ◌+◌, arith}
use Rattle.std.proofs.lemmas.List.{length-take}
use Rattle.svn_disk.proofs.Rewriting.{after_cut, cut_within}
use Rattle.svn_disk.proofs.normal.split_name.Goals as goal

pub returns-in-Some-clause-after : goal.returns-in-Some-clause-after
returns-in-Some-clause-after c =
    let place = c.in-Some.ensures.place in
    let within = cut_within 58 c.args.keyword.now place.0 place.1 in
    let long : length c.in-Some.name.now ≡ place.0 = ap length place.2 ∙ omega (arith, length-take place.0 c.args.keyword.now) in
    let at : c.min-at.result ≡ place.0 = omega arith in
    inr (
      drop (place.0 + 1) c.args.keyword.now,
      c.split_at.ensures.back ∙ ap (λ (n : ℕ). drop n c.args.keyword.now) at ∙ after_cut 58 c.args.keyword.now place.0 place.1,
    )
