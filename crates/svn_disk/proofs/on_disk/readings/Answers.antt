use Rattle.std.proofs.Common.{ℕ, List, [], ◌∷◌, ◌++◌, refl, ◌∙◌, ap, subst}
use Rattle.std.specs.Prelude.{Option, MatchOption, ⊤}
use Rattle.svn_folder.specs.States.{seen}
use Rattle.svn_disk.specs.Goes.{IsAlways}
use Rattle.svn_disk.specs.Crashes.{HasBytes}
use Rattle.svn_disk.proofs.Finding.{readings_three}
use Rattle.svn_disk.proofs.on_disk.readings.Goals as goal

pub returns : goal.returns
returns g c =
    let always = subst (λ (o : Option (List ℕ)). MatchOption o ⊤ (λ bytes. IsAlways (λ s. HasBytes bytes (seen s c.args.path.now)) (g.F.Folder.past c.args.folder.now)))
    c.in-Some.is c.in_ok-bytes.ensures in
    readings_three (g.F.Folder.past c.args.folder.now) c.args.path.now c.in-Some.bytes c.as_slice.result.now c.in_ok-plain.plain.items c.in_ok-unix.unix.items
    c.in_ok-others.others.items always c.as_slice.ensures c.in_ok-plain.ensures c.deref.result.now c.deref-3.result.now c.deref-5.result.now c.deref-2.result.now
    c.deref-4.result.now c.in_ok-stand_in.field-0 c.in_ok-stand_in-2.field-0 c.in_ok-stand_in-3.field-0 c.deref.ensures.value c.deref-3.ensures.value
    c.deref-5.ensures.value c.deref-2.ensures.value c.deref-4.ensures.value c.in_ok-stand_in.ensures c.in_ok-stand_in-2.ensures c.in_ok-stand_in-3.ensures
    (c.in_ok-unix.ensures refl) (c.in_ok-others.ensures refl) c.push-3.new.self.items
    (c.in_ok-push-3.ensures.items ∙ ap (λ (xs : List (List ℕ)). xs ++ c.in_ok-stand_in-3.field-0 ∷ [])
    (c.in_ok-push-2.ensures.items ∙ ap (λ (xs : List (List ℕ)). xs ++ c.in_ok-stand_in-2.field-0 ∷ [])
    (c.in_ok-push.ensures.items ∙ ap (λ (xs : List (List ℕ)). xs ++ c.in_ok-stand_in.field-0 ∷ []) c.new-texts.ensures.items)))
