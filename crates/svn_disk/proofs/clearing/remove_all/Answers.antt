use Rattle.std.proofs.Common.{[], ◌∷◌, rules}
use Rattle.svn_types.specs.Paths.{is_within}
use Rattle.svn_disk.proofs.Going.{keeps_more, stops_more}
use Rattle.svn_disk.proofs.Changing.{all_popped}
use Rattle.svn_disk.proofs.clearing.remove_all.Goals as goal

pub returns-in_err-remove_directory : goal.returns-in_err-remove_directory
returns-in_err-remove_directory g c = λ n h.
    let popped = all_popped (is_within (n ∷ [])) c.directories.left.items c.pop.new.self.items c.in-Some.last c.in-Some.ensures.items (c.directories.invariant.left n h) in
    let stops = stops_more (c.directories.invariant.steps n h) (c.in_err-remove_directory.ensures.steps n popped.1).1 in search rules

pub directories-preserved : goal.directories-preserved
directories-preserved g c = record {
  steps = λ n h.
      let popped = all_popped (is_within (n ∷ [])) c.directories.left.items c.pop.new.self.items c.in-Some.last c.in-Some.ensures.items (c.directories.invariant.left n h) in
      keeps_more (c.directories.invariant.steps n h) (c.in_ok-remove_directory.ensures.steps n popped.1).0;
  left = λ n h.
      let popped = all_popped (is_within (n ∷ [])) c.directories.left.items c.pop.new.self.items c.in-Some.last c.in-Some.ensures.items (c.directories.invariant.left n h) in
      c.in_ok-remove_directory.ensures.left n popped.1 popped.0;
}
