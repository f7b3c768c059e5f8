use Rattle.std.proofs.Common.{◌≡◌, ◌++◌, ℕ, List, Bool, true, ap, ◌∙◌, subst, sym}
use Rattle.svn_disk.specs.Readings.{Rewrites, IsKeyword}
use Rattle.svn_disk.specs.Signs.{Pushes}
use Rattle.svn_disk.proofs.Rewriting.{as_far_all, as_far_sign, as_far_keyword, keyword_alone}
use Rattle.svn_disk.proofs.normal.without_values.Goals.{in-Some-split_once+in_ok-push_keyword+else-branch, in_default-split_once}
use Rattle.svn_disk.proofs.normal.without_values.Goals as goal

pub signs-preserved-then-branch : goal.signs-preserved-then-branch
signs-preserved-then-branch c =
    let (i, found, front, after) = c.in-Some.ensures.place in
    let (j, next, keyword, left) = c.in-Some-split_once.ensures.place in
    let pushes = subst (λ (is : Bool). Pushes c.in-Some-split_once.keyword.now c.extend_from_slice.new.self.items is c.push_keyword.new.out.items) c.if-branch.true
    (c.in_ok-push_keyword.ensures (keyword_alone c.in-Some.after.now c.in-Some-split_once.keyword.now j next keyword)) in
    as_far_keyword c.args.text.now c.signs.rest.now c.signs.out.items c.in-Some.front.now c.in-Some.after.now c.extend_from_slice.new.self.items
    c.in-Some-split_once.keyword.now c.in-Some-split_once.after.now c.push_keyword.new.out.items i j c.signs.invariant found front after
    c.in_ok-extend_from_slice.ensures.items next keyword left pushes

pub signs-preserved : goal.signs-preserved
signs-preserved c =
    let (i, found, front, after) = c.in-Some.ensures.place in
    let pushed : c.match-split_once-2.out.items ≡ c.signs.out.items ++ c.in-Some.front.now =
    elim c.match-split_once-2.branch [
      | in-Some-split_once+in_ok-push_keyword+else-branch w ↦
          (let (j, next, keyword, left) = w.in-Some-split_once.ensures.place in
          let pushes = subst (λ (is : Bool). Pushes w.in-Some-split_once.keyword.now c.extend_from_slice.new.self.items is w.push_keyword.new.out.items) w.if-branch.false
          (w.in_ok-push_keyword.ensures (keyword_alone c.in-Some.after.now w.in-Some-split_once.keyword.now j next keyword)) in
          ap (λ v. v.items) w.out-is ∙ pushes ∙ c.in_ok-extend_from_slice.ensures.items)
      | in_default-split_once w ↦ ap (λ v. v.items) w.out-is ∙ c.in_ok-extend_from_slice.ensures.items
    ] in
    as_far_sign c.args.text.now c.signs.rest.now c.signs.out.items c.in-Some.front.now c.in-Some.after.now c.match-split_once-2.out.items c.push.new.self.items i
    c.signs.invariant found front after pushed c.in_ok-push.ensures.items

pub returns : goal.returns
returns c =
    let all = as_far_all c.args.text.now c.signs.rest.now c.signs.out.items c.signs.invariant in
    subst (λ (bytes : List ℕ). Rewrites IsKeyword c.args.text.now bytes) (sym c.in_ok-extend_from_slice-2.ensures.items) all
