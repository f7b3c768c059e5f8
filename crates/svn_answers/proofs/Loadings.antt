-- Histories, loaded from dumps.
use Rattle.std.proofs.Common.{◌≡◌, ℕ, ◌+◌, ◌<◌, ◌^◌, List, length, arith, ◌∙◌, refl, sym, ap, subst, false, Option, None, Some, Result, Ok}
use Rattle.std.specs.Prelude.{Err}
use Rattle.std.specs.Prelude.{MatchOption, codes}
use Rattle.std.specs.Option.{option_or}
use Rattle.svn_repo.specs.History.{History}
use Rattle.svn_dump.specs.declared.fault.DumpFault.{DumpFault}
use Rattle.svn_dump.specs.declared.fault.DumpFault.TheVariants as dump
use Rattle.svn_dump.specs.declared.reader.Reader.{Reader}
use Rattle.svn_dump.specs.declared.sections.Limits.{Limits}
use Rattle.svn_dump.specs.declared.sections.Texts.{Texts}
use Rattle.svn_dump.specs.Reading.{Fails}
use Rattle.svn_dump.specs.declared.fault.Reason.{Reason}
use Rattle.svn_dump.specs.Blocks.{block_at}
use Rattle.svn_dump.specs.Counts.{OfAll, Counts}
use Rattle.svn_dump.specs.Headers.{header_value, if_once}
use Rattle.svn_dump.specs.Readers.{left_in, headers_len, found_headers, after_headers, Opens, Shows}
use Rattle.svn_dump.specs.Records.{format_at}
use Rattle.svn_history.specs.declared.loader.Loader.{Loader}
use Rattle.svn_history.specs.declared.fault.LoadFault.{LoadFault}
use Rattle.svn_history.specs.declared.fault.LoadFault.TheVariants.{Memory}
use Rattle.svn_history.specs.Places.{AreHeaders, IsShown}
use Rattle.svn_history.specs.Parts.{Loading, RefusesAll, loading}
use Rattle.svn_history.proofs.Places.{all_refused_at}
use Rattle.svn_history.specs.Results.{of_dump}
use Rattle.svn_history.specs.Steps.{Draft, draft_of, begun}
use Rattle.svn_history.specs.Loading.{LoadsDump}
use Rattle.svn_history.specs.Fronts.{HasFront, FrontLoaded, uuid_in, uuid_at, given_uuid}
use Rattle.svn_answers.specs.declared.loaded.DumpRefusal.{DumpRefusal}
use Rattle.svn_answers.specs.declared.loaded.Loaded.{Loaded}
use Rattle.svn_answers.specs.Loadings.{BeginsDump, HasFrontAfter, IsReady, IsLoaded, IsAtFront, IsAtRecord, IsRefusalOf, IsFrontRefusal, IsAtHeaders, IsPlace, IsLaterRefusal, IsDumpRefusal, at_record, out_of_memory, in_front, later, from_start}

-- a reader that was made has read the first record
pub begins_by : {R : Type 0} (remaining : R → Option (List ℕ)) (limits : Limits) (input : Option (List ℕ)) (reader : Reader R)
    → Opens limits input (left_in remaining) (Ok reader)
    → MatchOption input (Unit {0}) (λ bytes. BeginsDump limits bytes (left_in remaining reader))
begins_by remaining limits None reader opens = tt
begins_by remaining limits (Some bytes) reader opens = opens

or_none : (o : Option (List ℕ)) → option_or o None ≡ o
or_none None = refl
or_none (Some x) = refl

module _ {R : Type 0} (remaining : R → Option (List ℕ)) (limits : Limits) (texts : Texts) (loader : Loader R) where
  abbrev HasFrontOf : Limits → Texts → Option (List ℕ) → Option (List ℕ) → Option ℕ → Type 0
  HasFrontOf l t given uuid first = MatchOption (left_in remaining loader.records) (Unit {0}) (λ rest. HasFront l t given rest uuid first)

  front_by : (input : Option (List ℕ)) (loaded : Loaded) → IsReady remaining limits texts input loader
      → FrontLoaded remaining loader loaded.uuid loaded.first
      → MatchOption input (Unit {0}) (λ bytes. HasFrontAfter limits texts bytes loaded (left_in remaining loader.records))
  unfolding Shows
  front_by None loaded ready front = tt
  front_by (Some bytes) loaded ready front =
      let given : given_uuid loader ≡ uuid_at limits bytes =
      ap (option_or (uuid_in loader.records.block.items)) ready.no_uuid ∙ or_none (uuid_in loader.records.block.items) ∙ ap uuid_in ready.shown.0 in
      subst (λ (g : Option (List ℕ)). HasFrontOf limits texts g loaded.uuid loaded.first) given
      (subst (λ (t : Texts). HasFrontOf limits t (given_uuid loader) loaded.uuid loaded.first) ready.texts_are
      (subst (λ (l : Limits). HasFrontOf l loader.records.texts (given_uuid loader) loaded.uuid loaded.first) ready.limits_are front))

  -- what a loader begins with
  pub begun_fresh : (input : Option (List ℕ)) → IsReady remaining limits texts input loader
      → draft_of loader.transaction ≡ begun loader.transaction.history
  begun_fresh input ready = ready.fresh ∙ sym (ap (λ (d : Draft). begun d.history) ready.fresh)

  pub loaded_by : (input : Option (List ℕ)) (loaded : Loaded) → IsReady remaining limits texts input loader
      → LoadsDump loader.records.limits loader.records.texts (left_in remaining loader.records) loader.transaction.history loaded.repo
      → FrontLoaded remaining loader loaded.uuid loaded.first → IsLoaded limits texts input loaded
  loaded_by input loaded ready loads front =
      let left : Option (List ℕ) = left_in remaining loader.records in
      record {
        left = left;
        begins = ready.begins;
        history =
            subst (λ (h : History). LoadsDump limits texts left h loaded.repo) (ap (λ (d : Draft). d.history) ready.fresh)
            (subst (λ (t : Texts). LoadsDump limits t left loader.transaction.history loaded.repo) ready.texts_are
            (subst (λ (l : Limits). LoadsDump l loader.records.texts left loader.transaction.history loaded.repo) ready.limits_are loads));
        front = front_by input loaded ready front;
      }

  -- where the record is that was read last, as the loader shows it after
  module _ (new : Loader R) (refusal : DumpRefusal) (input : Option (List ℕ)) (here : IsAtRecord new refusal) where
    measured : (input : Option (List ℕ)) (bytes : List ℕ) (found : Result (List ℕ × List ℕ) Reason)
        → Counts 0 input loader.records.source.taken (left_in remaining loader.records)
        → AreHeaders loader.records.source.taken (left_in remaining loader.records) new.records.begun new.records.block.items bytes found
        → MatchOption input (Unit {0})
        (λ dump. length dump < 2 ^ 64 → refusal.byte + headers_len (found_headers found) + length (after_headers bytes found) ≡ length dump)
    unfolding OfAll
    measured None bytes found counted shown = tt
    measured (Some dump) bytes found counted shown = λ small.
        let all : 0 + length dump ≡ length dump = omega arith in
        ap (λ (n : ℕ). n + headers_len (found_headers found) + length (after_headers bytes found)) here.byte
        ∙ shown.1 (length dump) (counted (length dump) (all, small))

    place_by : IsReady remaining limits texts input loader → (rev : Option ℕ) (bytes : List ℕ) → IsShown remaining loader new rev bytes
        → IsPlace limits input refusal rev bytes
    place_by ready rev bytes shown =
        let found : Limits → Result (List ℕ × List ℕ) Reason = λ l. block_at false l.headers bytes in (
          here.rev ∙ shown.0,
          subst (λ (l : Limits). IsAtHeaders input refusal bytes (block_at false l.headers bytes)) ready.limits_are (
            here.path ∙ ap (λ (b : List ℕ). if_once (header_value b (codes "Node-path"))) shown.1.0,
            measured input bytes (found loader.records.limits) ready.counted shown.1,
          ),
        )

    -- what a loader refuses that was given nothing but the first record
    pub later_by : (h : History) → IsReady remaining limits texts input loader
        → RefusesAll loader.records.limits loader.records.texts (IsShown remaining loader new) (loading remaining loader) refusal.fault h
        → IsLaterRefusal limits texts input refusal
    later_by h ready refuses =
        let left : Option (List ℕ) = left_in remaining loader.records in
        let e : LoadFault = refusal.fault in
        let at = IsShown remaining loader new in
        let started : loading remaining loader ≡ from_start left =
        (λ i. record { rev = ready.no_rev i; draft = ready.fresh i; left = left }) in
        record {
          left = left;
          begins = ready.begins;
          history = h;
          why =
              all_refused_at limits texts at (IsPlace limits input refusal) (place_by ready) (from_start left) e h
              (subst (λ (l : Loading). RefusesAll limits texts at l e h) started
              (subst (λ (t : Texts). RefusesAll limits t at (loading remaining loader) e h) ready.texts_are
              (subst (λ (l : Limits). RefusesAll l loader.records.texts at (loading remaining loader) e h) ready.limits_are refuses)));
        }

-- ---- refusals

module _ (limits : Limits) (texts : Texts) where
  pub front_refused_by : {R : Type 0} (input : Option (List ℕ)) (left : Reader R → Option (List ℕ)) (fault : DumpFault) (refusal : DumpRefusal)
      → Opens limits input left (Err fault) → IsAtFront refusal (of_dump fault) → IsFrontRefusal limits input refusal
  front_refused_by None left fault refusal opens at = record { fault = fault; at_front = at; why = tt }
  front_refused_by (Some bytes) left fault refusal opens at = record { fault = fault; at_front = at; why = opens }

  no_bytes : (input : Option (List ℕ)) → MatchOption input (Unit {0}) (λ bytes. Fails dump.Memory (format_at limits bytes))
  no_bytes None = tt
  no_bytes (Some bytes) = tt

  pub memory_in_front : (input : Option (List ℕ)) (refusal : DumpRefusal) → IsAtFront refusal Memory → IsFrontRefusal limits input refusal
  memory_in_front input refusal at = record { fault = dump.Memory; at_front = at; why = no_bytes input }

  -- what is reported of a loader that refused
  pub refusal_by : {R : Type 0} (remaining : R → Option (List ℕ)) (input : Option (List ℕ)) (loader new : Loader R) (refusal : DumpRefusal)
      (e : LoadFault) (h : History) → new.refused ≡ Some e → IsReady remaining limits texts input loader
      → RefusesAll loader.records.limits loader.records.texts (IsShown remaining loader new) (loading remaining loader) e h
      → IsRefusalOf new refusal → IsDumpRefusal limits texts input refusal
  refusal_by remaining input loader new refusal e h is ready refuses (at_record r) =
      let same : e ≡ refusal.fault = (let given : new.refused ≡ Some refusal.fault = r.fault in cc) in
      later (later_by remaining limits texts loader new refusal input r h ready
      (subst (λ (x : LoadFault). RefusesAll loader.records.limits loader.records.texts (IsShown remaining loader new) (loading remaining loader) x h)
      same refuses))
  refusal_by remaining input loader new refusal e h is ready refuses (out_of_memory m) = in_front (memory_in_front input refusal m)
