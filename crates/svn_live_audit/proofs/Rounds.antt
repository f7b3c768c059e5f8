-- The untrue paths after two rounds of questions are those by what is said of the nodes at last.
use Rattle.std.proofs.Common.{◌≡◌, ℕ, zero, suc, ◌+◌, ◌≤◌, Bool, true, false, List, [], ◌∷◌, ◌++◌, length, map, Option, Some, None, true≢false, cond, refl, sym, ap, subst, ◌∙◌, append-nil, append_assoc, arith}
use Rattle.std.specs.Prelude.{◌&&◌, filter, filter_map}
use Rattle.std.specs.List.{cons_option, AllByRecursion}
use Rattle.std.specs.Option.{is_some, option_map, option_to_list}
use Rattle.svn_types.specs.declared.kind.Kind.{Kind}
use Rattle.svn_types.specs.declared.kind.Kind.TheVariants.{File, Directory}
use Rattle.svn_types.specs.Names.{Path}
use Rattle.svn_digits.specs.StandIns.{md5_stand_in}
use Rattle.svn_repo.specs.History.{History}
use Rattle.svn_model.specs.declared.base_node.BaseNode.{BaseNode}
use Rattle.svn_model.specs.declared.base_node.BaseNode.TheVariants.{File as FileNode, Dir as DirNode, NotPresent}
use Rattle.svn_model.specs.Nodes.{WorkingCopy}
use Rattle.svn_audit.specs.declared.reason.Reason.{Reason}
use Rattle.svn_audit.specs.declared.reason.Reason.TheVariants.{NoRevision, Nothing, AnotherKind}
use Rattle.svn_audit.specs.declared.reason.Untrue.{Untrue}
use Rattle.svn_audit.specs.Untrue.{untrue_by, untrue_in}
use Rattle.svn_ask.specs.Answers.{SaidValue}
use Rattle.svn_ask.specs.Answers as said
use Rattle.svn_live_audit.specs.declared.finding.Finding.{Finding}
use Rattle.svn_live_audit.specs.Kept.{kept_history}
use Rattle.svn_live_audit.specs.Verdicts.{Heard, Gives, GivesIn, SaysAll, SaysAllOf, IsOfAll, asks_about, is_asked, untrue_said, untrue_heard}
use Rattle.svn_live_audit.specs.Rounds.{Round, Kinds, suits, asks_again, finding_of, round_on, rounds, first_round, no_directory_by, kinds_with, kinds_on, kinds_after, no_kinds, first_if, after_if, with_reason, settled_by, settled, questions_again, if_again, heard_of, IsLiveVerdict, RoundsHold}
use Rattle.svn_live_audit.proofs.Verdicts.{verdicts_hold}

both_true : (a b : Bool) → (a && b) ≡ true → (a ≡ true) × (b ≡ true)
both_true true b e = (refl, e)
both_true false b e = absurd (true≢false (sym e))

-- ---- the first round

abbrev findings_of : WorkingCopy → List (Path × BaseNode) → List SaidValue → List Finding
findings_of w [] values = []
findings_of w (e ∷ nodes) [] = []
findings_of w (e ∷ nodes) (value ∷ values) = cons_option (finding_of w (e, value)) (findings_of w nodes values)

-- an answer to each, which suits it
abbrev AllSuit : List (Path × BaseNode) → List SaidValue → Type 0
AllSuit [] [] = Unit {0}
AllSuit [] (value ∷ values) = ⊥
AllSuit (e ∷ nodes) [] = ⊥
AllSuit (e ∷ nodes) (value ∷ values) = (suits e.1 value ≡ true) × AllSuit nodes values

record Found (w : WorkingCopy) (nodes : List (Path × BaseNode)) (findings : List Finding) (b : Bool) (values : List SaidValue) (all : List Finding)
    : Type 0 where
  pub found : all ≡ findings ++ findings_of w nodes values
  pub suit : AllSuit nodes values
  pub so_far : b ≡ true

onto : (fs : List Finding) (o : Option Finding) (rest : List Finding) → (fs ++ option_to_list o) ++ rest ≡ fs ++ cons_option o rest
onto fs None rest = ap (λ l. l ++ rest) (append-nil fs)
onto fs (Some f) rest = append_assoc fs (f ∷ []) rest

rounds_found : (w : WorkingCopy) (nodes : List (Path × BaseNode)) (findings : List Finding) (b : Bool) (values : List SaidValue) (all : List Finding)
    → rounds w (record { left = nodes; findings = findings; suits = b }) values ≡ record { left = []; findings = all; suits = true }
    → Found w nodes findings b values all
rounds_found w [] findings b [] all e =
    record { found = sym (ap (λ (r : Round). r.findings) e) ∙ sym (append-nil findings); suit = tt; so_far = ap (λ (r : Round). r.suits) e }
rounds_found w [] findings b (value ∷ values) all e =
    absurd (true≢false (sym (rounds_found w [] findings false values all e).so_far))
rounds_found w (x ∷ nodes) findings b [] all e = absurd (omega (arith, ap (λ (r : Round). length r.left) e))
rounds_found w (x ∷ nodes) findings b (value ∷ values) all e =
    let o = finding_of w (x, value) in
    let more = rounds_found w nodes (findings ++ option_to_list o) (b && suits x.1 value) values all e in
    let suit = both_true b (suits x.1 value) more.so_far in
    record { found = more.found ∙ onto findings o (findings_of w nodes values); suit = (suit.1, more.suit); so_far = suit.0 }

-- ---- the second round

abbrev reasons_of : List SaidValue → List Reason
reasons_of values = filter_map no_directory_by values

abbrev AllWhy : List SaidValue → Type 0
AllWhy [] = Unit {0}
AllWhy (value ∷ values) = ((reason : Reason) × (no_directory_by value ≡ Some reason)) × AllWhy values

record Told (reasons : List Reason) (b : Bool) (values : List SaidValue) (all : List Reason) : Type 0 where
  pub told : all ≡ reasons ++ reasons_of values
  pub why : AllWhy values
  pub so_far : b ≡ true

kinds_told : (reasons : List Reason) (b : Bool) (values : List SaidValue) (all : List Reason)
    → kinds_after (record { reasons = reasons; suits = b }) values ≡ record { reasons = all; suits = true } → Told reasons b values all
kinds_told reasons b [] all e =
    record { told = sym (ap (λ (k : Kinds). k.reasons) e) ∙ sym (append-nil reasons); why = tt; so_far = ap (λ (k : Kinds). k.suits) e }
kinds_told reasons b (value ∷ values) all e =
    by (no_directory_by value) refl (kinds_told reasons false values all) (λ reason. kinds_told (reasons ++ reason ∷ []) b values all) e
  where
    by : (o : Option Reason) → no_directory_by value ≡ o
        → (kinds_after (record { reasons = reasons; suits = false }) values ≡ record { reasons = all; suits = true } → Told reasons false values all)
        → ((reason : Reason) → kinds_after (record { reasons = reasons ++ reason ∷ []; suits = b }) values ≡ record { reasons = all; suits = true }
        → Told (reasons ++ reason ∷ []) b values all)
        → kinds_after (kinds_with (record { reasons = reasons; suits = b }) o) values ≡ record { reasons = all; suits = true }
        → Told reasons b (value ∷ values) all
    by None is none some e = absurd (true≢false (sym (none e).so_far))
    by (Some reason) is none some e =
        let more = some reason e in
        record {
          told =
              more.told ∙ append_assoc reasons (reason ∷ []) (reasons_of values)
              ∙ sym (ap (λ o. reasons ++ cons_option o (reasons_of values)) is);
          why = ((reason, is), more.why);
          so_far = more.so_far;
        }

-- ---- both

abbrev AllAsked : List (Path × BaseNode) → Type 0
AllAsked [] = Unit {0}
AllAsked (e ∷ nodes) = (is_asked e ≡ true) × AllAsked nodes

-- how many are asked again
abbrev one_more : Bool → ℕ → ℕ
one_more true n = suc n
one_more false n = n

abbrev again : List Finding → ℕ
again [] = 0
again (f ∷ fs) = one_more f.asks_again (again fs)

record Settles (w : WorkingCopy) (nodes : List (Path × BaseNode)) (first second : List SaidValue) : Type 0 where
  pub same : settled (findings_of w nodes first) (reasons_of second) ≡ untrue_heard w (heard_of nodes first second)
  pub all : AllByRecursion SaysAllOf (heard_of nodes first second)
  pub nodes_are : map (λ (x : Heard). x.0) (heard_of nodes first second) ≡ nodes

pub none_some : {A : Type 0} {x : A} → None ≡ Some x → ⊥
none_some e = true≢false (sym (ap is_some e))

abbrev plainly : Untrue → Finding
plainly u = record { untrue = u; asks_again = false }

settle_plainly : (o : Option Untrue) (rest : List Finding) (reasons : List Reason)
    → settled (cons_option (option_map plainly o) rest) reasons ≡ cons_option o (settled rest reasons)
settle_plainly None rest reasons = refl
settle_plainly (Some u) rest reasons = refl

count_plainly : (o : Option Untrue) (rest : List Finding) → again (cons_option (option_map plainly o) rest) ≡ again rest
count_plainly None rest = refl
count_plainly (Some u) rest = refl

says_all : (node : BaseNode) (value : SaidValue) → suits node value ≡ true → asks_again value ≡ false → SaysAll node value
says_all NotPresent value e plain = tt
says_all (FileNode r q text props) (said.file sum others) e plain = tt
says_all (FileNode r q text props) (said.directory others names) e plain = tt
says_all (FileNode r q text props) (said.of_kind File) e plain = absurd (true≢false (sym e))
says_all (FileNode r q text props) (said.of_kind Directory) e plain = refl
says_all (FileNode r q text props) said.nothing e plain = tt
says_all (FileNode r q text props) said.no_directory e plain = absurd (true≢false plain)
says_all (FileNode r q text props) said.no_revision e plain = tt
says_all (DirNode r q true props) (said.file sum others) e plain = tt
says_all (DirNode r q true props) (said.directory others names) e plain = tt
says_all (DirNode r q true props) (said.of_kind File) e plain = refl
says_all (DirNode r q true props) (said.of_kind Directory) e plain = absurd (true≢false (sym e))
says_all (DirNode r q true props) said.nothing e plain = tt
says_all (DirNode r q true props) said.no_directory e plain = absurd (true≢false plain)
says_all (DirNode r q true props) said.no_revision e plain = tt
says_all (DirNode r q false props) (said.file sum others) e plain = tt
says_all (DirNode r q false props) (said.directory others names) e plain = tt
says_all (DirNode r q false props) (said.of_kind kind) e plain = tt
says_all (DirNode r q false props) said.nothing e plain = tt
says_all (DirNode r q false props) said.no_directory e plain = absurd (true≢false plain)
says_all (DirNode r q false props) said.no_revision e plain = tt

says_file : (r : ℕ) (q : Path) (complete : Bool) (props : List (List ℕ × List ℕ)) → SaysAll (DirNode r q complete props) (said.of_kind File)
says_file r q true props = refl
says_file r q false props = tt

says_nothing : (r : ℕ) (q : Path) (complete : Bool) (props : List (List ℕ × List ℕ)) → SaysAll (DirNode r q complete props) said.nothing
says_nothing r q true props = tt
says_nothing r q false props = tt

says_no_revision : (r : ℕ) (q : Path) (complete : Bool) (props : List (List ℕ × List ℕ)) → SaysAll (DirNode r q complete props) said.no_revision
says_no_revision r q true props = tt
says_no_revision r q false props = tt

module _ (w : WorkingCopy) where
  plain : (e : Path × BaseNode) (nodes : List (Path × BaseNode)) (value : SaidValue) (first second : List SaidValue) → SaysAll e.1 value
      → Settles w nodes first second
      → settled (cons_option (option_map plainly (untrue_said w (e, value))) (findings_of w nodes first)) (reasons_of second)
      ≡ untrue_heard w ((e, value) ∷ heard_of nodes first second)
  plain e nodes value first second says more =
      settle_plainly (untrue_said w (e, value)) (findings_of w nodes first) (reasons_of second)
      ∙ ap (cons_option (untrue_said w (e, value))) more.same

  -- an answer that isn't asked again
  plain_case : (e : Path × BaseNode) (nodes : List (Path × BaseNode)) (value : SaidValue) (first second : List SaidValue)
      → (again (findings_of w nodes first) ≡ length second → Settles w nodes first second)
      → asks_again value ≡ false → suits e.1 value ≡ true
      → again (cons_option (option_map plainly (untrue_said w (e, value))) (findings_of w nodes first)) ≡ length second
      → (settled (cons_option (option_map plainly (untrue_said w (e, value))) (findings_of w nodes first)) (reasons_of second)
      ≡ untrue_heard w ((e, value) ∷ heard_of nodes first second))
      × AllByRecursion SaysAllOf ((e, value) ∷ heard_of nodes first second)
      × (map (λ (x : Heard). x.0) ((e, value) ∷ heard_of nodes first second) ≡ e ∷ nodes)
  plain_case e nodes value first second later none suit count =
      let says = says_all e.1 value suit none in
      let more = later (sym (count_plainly (untrue_said w (e, value)) (findings_of w nodes first)) ∙ count) in
      (plain e nodes value first second says more, (says, more.all), ap (λ l. e ∷ l) more.nodes_are)

  -- no directory is there, and why is said afterwards
  again_case : (p : Path) (node : BaseNode) (nodes : List (Path × BaseNode)) (first second : List SaidValue)
      → ((more : List SaidValue) → AllWhy more → again (findings_of w nodes first) ≡ length more → Settles w nodes first more)
      → asks_about node ≡ true → suits node said.no_directory ≡ true → AllWhy second
      → again (findings_of w ((p, node) ∷ nodes) (said.no_directory ∷ first)) ≡ length second
      → Settles w ((p, node) ∷ nodes) (said.no_directory ∷ first) second
  again_case p NotPresent nodes first second later asked suit why count = absurd (true≢false (sym asked))
  again_case p (FileNode r q text props) nodes first second later asked suit why count = absurd (true≢false (sym suit))
  again_case p (DirNode r q complete props) nodes first [] later asked suit why count = absurd (omega (arith, count))
  again_case p (DirNode r q complete props) nodes first (said.nothing ∷ second) later asked suit why count =
      let more = later second why.1 (omega (arith, count)) in
      record {
        same = ap (λ l. untrue_by p (DirNode r q complete props) Nothing ∷ l) more.same;
        all = (says_nothing r q complete props, more.all);
        nodes_are = ap (λ l. (p, DirNode r q complete props) ∷ l) more.nodes_are;
      }
  again_case p (DirNode r q complete props) nodes first (said.of_kind File ∷ second) later asked suit why count =
      let more = later second why.1 (omega (arith, count)) in
      record {
        same = ap (λ l. untrue_by p (DirNode r q complete props) (AnotherKind File) ∷ l) more.same;
        all = (says_file r q complete props, more.all);
        nodes_are = ap (λ l. (p, DirNode r q complete props) ∷ l) more.nodes_are;
      }
  again_case p (DirNode r q complete props) nodes first (said.no_revision ∷ second) later asked suit why count =
      let more = later second why.1 (omega (arith, count)) in
      record {
        same = ap (λ l. untrue_by p (DirNode r q complete props) NoRevision ∷ l) more.same;
        all = (says_no_revision r q complete props, more.all);
        nodes_are = ap (λ l. (p, DirNode r q complete props) ∷ l) more.nodes_are;
      }
  again_case p (DirNode r q complete props) nodes first (said.of_kind Directory ∷ second) later asked suit why count = absurd (none_some why.0.1)
  again_case p (DirNode r q complete props) nodes first (said.file sum others ∷ second) later asked suit why count = absurd (none_some why.0.1)
  again_case p (DirNode r q complete props) nodes first (said.directory others names ∷ second) later asked suit why count = absurd (none_some why.0.1)
  again_case p (DirNode r q complete props) nodes first (said.no_directory ∷ second) later asked suit why count = absurd (none_some why.0.1)

  settles : (nodes : List (Path × BaseNode)) (first second : List SaidValue) → AllAsked nodes → AllSuit nodes first → AllWhy second
      → again (findings_of w nodes first) ≡ length second → Settles w nodes first second
  settles [] [] second asked suit why count = record { same = refl; all = tt; nodes_are = refl }
  settles [] (value ∷ first) second asked suit why count = absurd suit
  settles (e ∷ nodes) [] second asked suit why count = absurd suit
  settles (e ∷ nodes) (said.file sum props ∷ first) second asked suit why count =
      let c = plain_case e nodes (said.file sum props) first second (settles nodes first second asked.1 suit.1 why) refl suit.0 count in
      record { same = c.0; all = c.1; nodes_are = c.2 }
  settles (e ∷ nodes) (said.directory props names ∷ first) second asked suit why count =
      let c = plain_case e nodes (said.directory props names) first second (settles nodes first second asked.1 suit.1 why) refl suit.0 count in
      record { same = c.0; all = c.1; nodes_are = c.2 }
  settles (e ∷ nodes) (said.of_kind kind ∷ first) second asked suit why count =
      let c = plain_case e nodes (said.of_kind kind) first second (settles nodes first second asked.1 suit.1 why) refl suit.0 count in
      record { same = c.0; all = c.1; nodes_are = c.2 }
  settles (e ∷ nodes) (said.nothing ∷ first) second asked suit why count =
      let c = plain_case e nodes said.nothing first second (settles nodes first second asked.1 suit.1 why) refl suit.0 count in
      record { same = c.0; all = c.1; nodes_are = c.2 }
  settles (e ∷ nodes) (said.no_revision ∷ first) second asked suit why count =
      let c = plain_case e nodes said.no_revision first second (settles nodes first second asked.1 suit.1 why) refl suit.0 count in
      record { same = c.0; all = c.1; nodes_are = c.2 }
  settles (e ∷ nodes) (said.no_directory ∷ first) second asked suit why count =
      again_case e.0 e.1 nodes first second (λ more. settles nodes first more asked.1 suit.1) asked.0 suit.0 why count

-- ---- the verdict

all_asked : (nodes : List (Path × BaseNode)) → AllAsked (filter is_asked nodes)
all_asked [] = tt
all_asked (e ∷ nodes) = by (is_asked e) refl (all_asked nodes)
  where
    by : (b : Bool) → is_asked e ≡ b → AllAsked (filter is_asked nodes) → AllAsked (cond b (e ∷ filter is_asked nodes) (filter is_asked nodes))
    by true is later = (is, later)
    by false is later = later

gives_each : (h : History) (heard : List Heard) → AllByRecursion (GivesIn h) heard → AllByRecursion SaysAllOf heard → AllByRecursion (Gives h) heard
gives_each h [] there all = tt
gives_each h (x ∷ heard) there all = (record { there = there.0; all = all.0 }, gives_each h heard there.1 all.1)

how_many : (findings : List Finding) → length (questions_again findings) ≡ again findings
how_many [] = refl
how_many (f ∷ findings) = by f.asks_again (how_many findings)
  where
    by : (b : Bool) → length (questions_again findings) ≡ again findings
        → length (cons_option (if_again b f.untrue) (questions_again findings)) ≡ one_more b (again findings)
    by true later = ap suc later
    by false later = later

pub rounds_hold : RoundsHold
rounds_hold w nodes first second findings reasons one two count =
    let found = rounds_found w (filter is_asked nodes) [] true first findings one in
    let told = kinds_told [] true second reasons two in
    let s = settles w (filter is_asked nodes) first second (all_asked nodes) found.suit told.why (ap again (sym found.found) ∙ sym (how_many findings) ∙ count) in
    let same : settled findings reasons ≡ untrue_heard w (heard_of (filter is_asked nodes) first second) =
    ap (λ fs. settled fs reasons) found.found ∙ ap (settled (findings_of w (filter is_asked nodes) first)) told.told ∙ s.same in
    record {
      of_all = s.nodes_are;
      says_all = s.all;
      untrue_are = same;
      of_each = λ h gives.
          same ∙ verdicts_hold h w nodes (heard_of (filter is_asked nodes) first second) s.nodes_are
          (gives_each h (heard_of (filter is_asked nodes) first second) gives s.all);
    }
