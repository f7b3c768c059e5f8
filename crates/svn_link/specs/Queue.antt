-- The queue of a link: the calls that were sent, those that were taken, and those that it holds in between.
-- A pass is what a thread needs for a step, and it knows which calls were sent by it and which were taken. Seven kinds of step are made:
--   making: the queue is empty; its one pass may send and take, and has sent and taken nothing
--   splitting: that pass becomes two: one may send and has what was sent, the other may take and has what was taken
--   send: a call goes after those that the queue holds, and is the last of what was sent
--   full: a send finds no room: nothing changes
--   take: the call at the front of the queue goes, and is the last of what was taken
--   empty: a take finds no call: nothing changes
--   joining: the two passes become one again, which has both lists; by the rule it learns what the queue still holds
-- After each of them, whichever thread made it, what was sent is what was taken, and then what the queue holds.
use Rattle.std.specs.Prelude.{◌≡◌, ℕ, ◌<◌, ◌^◌, Bool, true, List, [], ◌∷◌, ◌++◌, length}
use mathlib.Core.Option.{some}
use lib.ListN.{get_elem?}
use Rattle.svn_editor.specs.declared.call.Call.{Call}
use Rattle.svn_link.specs.declared.queue.Hand.{Hand}

-- a pass by what it may do, send or take, and by what was sent and taken by it
abbrev pub hand : Bool → Bool → List Call → List Call → Hand
hand sends takes sent taken = record { sends = sends; takes = takes; sent = sent; taken = taken }

-- the pass after a send
abbrev pub sent_more : Hand → Call → Hand
sent_more h c = hand h.sends h.takes (h.sent ++ c ∷ []) h.taken

-- the pass after a take
abbrev pub taken_more : Hand → Call → Hand
taken_more h c = hand h.sends h.takes h.sent (h.taken ++ c ∷ [])

-- what a take tells: the call was taken, and fewer than 2^64 were
abbrev pub IsTake : Hand → Call → Hand → Type 0
IsTake h c k = (k ≡ taken_more h c) × (length k.taken < 2 ^ 64)

-- a pass that may send is the sender's and has what was sent; one that may take is the taker's and has what was taken
module _ (sender taker : ℕ) (sent taken : List Call) (pass : ℕ) (h : Hand) where
  pub record Fits : Type 0 where
    pub sends : h.sends ≡ true → (pass ≡ sender) × (h.sent ≡ sent)
    pub takes : h.takes ≡ true → (pass ≡ taker) × (h.taken ≡ taken)

-- the rule: what was sent is what was taken and then what the queue holds; fewer than 2^64 were sent; each pass fits
pub record IsInOrder (items : List Call) (hands : List Hand) : Type 0 where
  pub sender : ℕ
  pub taker : ℕ
  pub sent : List Call
  pub taken : List Call
  pub in_order : sent ≡ taken ++ items
  pub few : length sent < 2 ^ 64
  pub each : (pass : ℕ) (h : Hand) → get_elem? hands pass ≡ some h → Fits sender taker sent taken pass h
