-- All untrue nodes of a copy, found one after the other.
use Rattle.std.proofs.Common.{◌≡◌, Bool, true, false, ◌||◌, cond, List, [], ◌∷◌, ◌++◌, refl, sym, ap, ◌∙◌}
use Rattle.std.proofs.Common.{Option, Some, None, true≢false, append_assoc}
use Rattle.std.specs.List.{cons_option}
use Rattle.std.specs.Option.{is_some, option_or, option_map, option_to_list}
use Rattle.std.proofs.lemmas.List.{append-nil}
use Rattle.svn_types.specs.Names.{Path}
use Rattle.svn_repo.specs.History.{History}
use Rattle.svn_model.specs.declared.base_node.BaseNode.{BaseNode}
use Rattle.svn_model.specs.Nodes.{WorkingCopy, get_in}
use Rattle.svn_model.specs.Truth.{is_untrue, first_untrue_in, first_untrue}
use Rattle.svn_wc.proofs.Truly.{first_untrue_in-append}
use Rattle.svn_audit.specs.declared.reason.Untrue.{Untrue}
use Rattle.svn_audit.specs.Untrue.{node_reason, untrue_by, untrue_at, untrue_in}

abbrev pub has_one : {A : Type 0} → List A → Bool
has_one [] = false
has_one (x ∷ xs) = true

none_has : {A : Type 0} (xs : List A) → has_one xs ≡ false → xs ≡ []
none_has [] e = refl
none_has (x ∷ xs) e = absurd (true≢false e)

nothing : {A : Type 0} (o : Option A) → is_some o ≡ false → o ≡ None
nothing None e = refl
nothing (Some x) e = absurd (true≢false e)

untrue_in-append : (h : History) (w : WorkingCopy) (xs ys : List (Path × BaseNode))
    → untrue_in h w (xs ++ ys) ≡ untrue_in h w xs ++ untrue_in h w ys
untrue_in-append h w [] ys = refl
untrue_in-append h w (x ∷ xs) ys = by (untrue_at h w x.0 x.1) (untrue_in-append h w xs ys)
  where
    by : (o : Option Untrue) → untrue_in h w (xs ++ ys) ≡ untrue_in h w xs ++ untrue_in h w ys
        → cons_option o (untrue_in h w (xs ++ ys)) ≡ cons_option o (untrue_in h w xs) ++ untrue_in h w ys
    by None e = e
    by (Some u) e = ap (λ us. u ∷ us) e

one_listed : (o : Option Untrue) → cons_option o [] ≡ option_to_list o
one_listed None = refl
one_listed (Some u) = refl

has_one-append : (us : List Untrue) (o : Option Untrue) → has_one (us ++ option_to_list o) ≡ (has_one us || is_some o)
has_one-append [] None = refl
has_one-append [] (Some u) = refl
has_one-append (u ∷ us) o = refl

some_or : (a b : Option Path) → is_some (option_or a b) ≡ (is_some a || is_some b)
some_or None b = refl
some_or (Some p) b = refl

some_by : (p : Path) (h : History) (w : WorkingCopy) (node : BaseNode) → is_some (untrue_at h w p node) ≡ is_some (node_reason h w p node)
some_by p h w node = by (node_reason h w p node)
  where
    by : (o : Option _) → is_some (option_map (untrue_by p node) o) ≡ is_some o
    by None = refl
    by (Some r) = refl

first_one : (h : History) (w : WorkingCopy) (c : Path × BaseNode) → is_some (first_untrue_in h w (c ∷ [])) ≡ is_untrue h w c.0 c.1
first_one h w c = by (is_untrue h w c.0 c.1)
  where
    by : (b : Bool) → is_some (cond b (Some c.0) None) ≡ b
    by true = refl
    by false = refl

-- what was found among those that were looked at of all
pub record Audited (h : History) (nodes left : List (Path × BaseNode)) (found : List Untrue) : Type 0 where
  pub done : List (Path × BaseNode)
  pub parts : nodes ≡ done ++ left
  pub all : found ≡ untrue_in h (get_in nodes) done
  pub agrees : is_some (first_untrue_in h (get_in nodes) done) ≡ has_one found

pub audit_begins : (h : History) (nodes : List (Path × BaseNode)) → Audited h nodes nodes []
audit_begins h nodes = record { done = []; parts = refl; all = refl; agrees = refl }

pub audit_on : (h : History) (nodes : List (Path × BaseNode)) (c : Path × BaseNode) (left : List (Path × BaseNode)) (found : List Untrue)
    → Audited h nodes (c ∷ left) found
    → is_some (node_reason h (get_in nodes) c.0 c.1) ≡ is_untrue h (get_in nodes) c.0 c.1
    → Audited h nodes left (found ++ option_to_list (untrue_at h (get_in nodes) c.0 c.1))
audit_on h nodes c left found s tested =
    let w : WorkingCopy = get_in nodes in
    let here : Option Untrue = untrue_at h w c.0 c.1 in
    record {
      done = s.done ++ c ∷ [];
      parts = s.parts ∙ sym (append_assoc s.done (c ∷ []) left);
      all =
          ap (λ us. us ++ option_to_list here) s.all ∙ ap (λ us. untrue_in h w s.done ++ us) (sym (one_listed here))
          ∙ sym (untrue_in-append h w s.done (c ∷ []));
      agrees =
          ap is_some (first_untrue_in-append h w s.done (c ∷ []))
          ∙ some_or (first_untrue_in h w s.done) (first_untrue_in h w (c ∷ []))
          ∙ ap (λ b. b || is_some (first_untrue_in h w (c ∷ []))) s.agrees
          ∙ ap (λ b. has_one found || b) (first_one h w c ∙ sym tested ∙ sym (some_by c.0 h w c.1))
          ∙ sym (has_one-append found here);
    }

pub all_done : (h : History) (nodes left : List (Path × BaseNode)) (found : List Untrue) → (s : Audited h nodes left found) → left ≡ []
    → nodes ≡ s.done
all_done h nodes left found s none = s.parts ∙ ap (λ l. s.done ++ l) none ∙ append-nil s.done

pub audit_ends : (h : History) (nodes left : List (Path × BaseNode)) (found : List Untrue) → Audited h nodes left found → left ≡ []
    → found ≡ untrue_in h (get_in nodes) nodes
audit_ends h nodes left found s none = s.all ∙ ap (untrue_in h (get_in nodes)) (sym (all_done h nodes left found s none))

pub none_found : (h : History) (nodes left : List (Path × BaseNode)) (found : List Untrue) → Audited h nodes left found → left ≡ []
    → found ≡ [] → first_untrue h nodes ≡ None
none_found h nodes left found s none empty =
    nothing (first_untrue h nodes)
    (ap (λ l. is_some (first_untrue_in h (get_in nodes) l)) (all_done h nodes left found s none) ∙ s.agrees ∙ ap has_one empty)

pub none_first : (h : History) (nodes left : List (Path × BaseNode)) (found : List Untrue) → Audited h nodes left found → left ≡ []
    → first_untrue h nodes ≡ None → found ≡ []
none_first h nodes left found s none first =
    none_has found
    (sym s.agrees ∙ ap (λ l. is_some (first_untrue_in h (get_in nodes) l)) (sym (all_done h nodes left found s none)) ∙ ap is_some first)
