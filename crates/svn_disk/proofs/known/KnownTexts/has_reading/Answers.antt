use Rattle.std.proofs.Common.{◌≡◌, ℕ, true, List, length, ◌<◌, sym, subst, arith}
use Rattle.svn_folder.specs.States.{seen}
use Rattle.svn_folder.specs.Steps.{run}
use Rattle.svn_disk.specs.Goes.{IsAlways}
use Rattle.svn_disk.specs.Finding.{has_word, AreReadings}
use Rattle.svn_disk.proofs.Finding.{reading_at, reading_owns}
use Rattle.svn_disk.proofs.known.KnownTexts.has_reading.Goals as goal

pub returns-then-has : goal.returns-then-has
returns-then-has g c = λ yes.
    let now = g.F.Folder.past c.args.folder.now in
    let names = c.deref-text-items.result.now in
    let below : c.loop-text.text-index < length names = omega arith in
    let all = subst (λ (xs : List (List ℕ)). IsAlways (λ s. AreReadings xs (seen s c.args.path.now)) now) (sym c.deref-text-items.ensures.value)
    c.in_ok-readings.ensures in
    let is_known = subst (λ (t : List ℕ). has_word c.args.self.now t ≡ true) c.as_slice.ensures (c.has.ensures c.if-has.true) in
    reading_owns (has_word c.args.self.now) now c.args.path.now c.text-item.result is_known
    (λ s steps is. reading_at names c.loop-text.text-index c.text-item.result (seen (run s steps) c.args.path.now) below c.text-item.is (all s steps is))
