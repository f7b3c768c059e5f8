-- What a call that is in order keeps to.
use Rattle.std.proofs.Common.{◌≡◌, false, List, refl, ◌∙◌, true≢false}
use Rattle.std.specs.Prelude.{None}
use Rattle.std.specs.List.{list_any}
use Rattle.svn_lists.proofs.Options.{cond_none}
use Rattle.svn_editor.specs.declared.call.Call.{Call}
use Rattle.svn_editor.specs.declared.call.Call.TheVariants.{AbortEdit}
use Rattle.svn_editor.specs.Calls.{is_abort, is_last}
use Rattle.svn_editor.specs.Order.{is_target_late, is_token_unknown, is_token_closed, is_token_misnumbered, is_path_wrong}
use Rattle.svn_editor.specs.Order.{is_file_unfinished, is_too_early, is_not_innermost, is_open_below, is_prop_late, is_delete_late}
use Rattle.svn_editor.specs.Order.{is_entry_again, is_text_again, is_root_unclosed, fault_in_order, but_abort, order_fault}

pub record IsAccepted (calls : List Call) (c : Call) : Type 0 where
  pub target : is_target_late calls c ≡ false
  pub token_known : is_token_unknown calls c ≡ false
  pub token_open : is_token_closed calls c ≡ false
  pub numbered : is_token_misnumbered calls c ≡ false
  pub path : is_path_wrong calls c ≡ false
  pub finished : is_file_unfinished calls c ≡ false
  pub late_enough : is_too_early calls c ≡ false
  pub innermost : is_not_innermost calls c ≡ false
  pub none_below : is_open_below calls c ≡ false
  pub prop : is_prop_late calls c ≡ false
  pub delete : is_delete_late calls c ≡ false
  pub entry : is_entry_again calls c ≡ false
  pub text : is_text_again calls c ≡ false
  pub root_closed : is_root_unclosed calls c ≡ false

pub accepted_in_order : (calls : List Call) (c : Call) → fault_in_order calls c ≡ None → IsAccepted calls c
accepted_in_order calls c h =
    let p0 = cond_none (is_target_late calls c) _ _ h in
    let p1 = cond_none (is_token_unknown calls c) _ _ p0.1 in
    let p2 = cond_none (is_token_closed calls c) _ _ p1.1 in
    let p3 = cond_none (is_token_misnumbered calls c) _ _ p2.1 in
    let p4 = cond_none (is_path_wrong calls c) _ _ p3.1 in
    let p5 = cond_none (is_file_unfinished calls c) _ _ p4.1 in
    let p6 = cond_none (is_too_early calls c) _ _ p5.1 in
    let p7 = cond_none (is_not_innermost calls c) _ _ p6.1 in
    let p8 = cond_none (is_open_below calls c) _ _ p7.1 in
    let p9 = cond_none (is_prop_late calls c) _ _ p8.1 in
    let p10 = cond_none (is_delete_late calls c) _ _ p9.1 in
    let p11 = cond_none (is_entry_again calls c) _ _ p10.1 in
    let p12 = cond_none (is_text_again calls c) _ _ p11.1 in
    let p13 = cond_none (is_root_unclosed calls c) _ _ p12.1 in
    record {
      target = p0.0;
      token_known = p1.0;
      token_open = p2.0;
      numbered = p3.0;
      path = p4.0;
      finished = p5.0;
      late_enough = p6.0;
      innermost = p7.0;
      none_below = p8.0;
      prop = p9.0;
      delete = p10.0;
      entry = p11.0;
      text = p12.0;
      root_closed = p13.0;
    }

-- nothing is in order after the last call
pub not_ended : (calls : List Call) (c : Call) → order_fault calls c ≡ None → list_any is_last calls ≡ false
not_ended calls c h = (cond_none (list_any is_last calls) _ _ h).0

pub accepted : (calls : List Call) (c : Call) → is_abort c ≡ false → order_fault calls c ≡ None → IsAccepted calls c
accepted calls c n h = accepted_in_order calls c (same_but c n ∙ (cond_none (list_any is_last calls) _ _ h).1)
  where
    same_but : (c : Call) → is_abort c ≡ false → fault_in_order calls c ≡ but_abort calls c
    same_but AbortEdit n = absurd (true≢false n)
    same_but _ n = refl
