-- What is written to a client, by the bytes that it sends.
use Rattle.std.proofs.Common.{◌≡◌, ◌⊎◌, inl, inr, ℕ, Bool, true, false, List, [], ◌∷◌, ◌++◌, append-nil, append_assoc, Option, Some, None, IfSome, Result, Ok, Err, refl, sym, ap, ◌∙◌, subst}
use Rattle.std.specs.Prelude.{IfOk}
use Rattle.std.specs.Io.KnownBytes.{Appends, Keeps}
use Rattle.std.proofs.KnownBytes.{Appends-kept, Appends-nil, Appends-trans, Consumes-nil, Consumes-trans}
use Rattle.svn_wire.specs.declared.token.Token.{Token}
use Rattle.svn_wire.specs.Streams.{Waiting, fresh, with_bytes, reads_from, reads_now, IsSameStream, TakesItem}
use Rattle.svn_wire.specs.Sessions.{Heard, items_of, items_in, LeavesOff}
use Rattle.svn_wire.proofs.StreamItems.{fresh_items, next_leaves, leaves_nothing, leaves_more, leaves_later, none_now}
use Rattle.svn_served.specs.declared.connection.Phase.{Phase}
use Rattle.svn_served.specs.declared.connection.Phase.TheVariants.{Greeted, Over}
use Rattle.svn_served.specs.declared.fault.ServeFault.{ServeFault}
use Rattle.svn_served.specs.declared.opening.TheConstants.{GREETING}
use Rattle.svn_served.specs.declared.exchange.TheConstants.{CLIENT_LIMITS}
use Rattle.svn_replies.specs.declared.served.Served.{Served}
use Rattle.svn_served.specs.Connection.{Takes, Runs}
use Rattle.svn_served.specs.Serving.{heard, Comes, IsDone, Reads, DoneUnless, Goes, AreTaken, IsServed}

-- ---- items one after another

heard_both : (xs ys : List (List Token)) → heard (xs ++ ys) ≡ heard xs ++ heard ys
heard_both [] ys = refl
heard_both (x ∷ xs) ys = ap (λ (l : List Heard). Ok x ∷ l) (heard_both xs ys)

module _ (s : Served) where
  runs_both : (xs ys : List (List Token)) (p q r : Phase) (a b : List ℕ) → Runs s p xs q a → Runs s q ys r b → Runs s p (xs ++ ys) r (a ++ b)
  runs_both [] ys p q r a b h g =
      let same = subst (λ (x : Phase). Runs s x ys r b) h.0 g in
      subst (λ (l : List ℕ). Runs s p ys r (l ++ b)) (sym h.1) same
  runs_both (x ∷ xs) ys p q r a b h g =
      (h.0, h.1, h.2 ++ b, h.3, runs_both xs ys h.0 q r h.2 b h.4 g, ap (λ (l : List ℕ). l ++ b) h.5 ∙ append_assoc h.1 h.2 b)

  one_runs : (p q : Phase) (item : List Token) (bytes : List ℕ) → Takes s p item q bytes → Runs s p (item ∷ []) q bytes
  one_runs p q item bytes h = (q, bytes, [], h, (refl, refl), sym (append-nil bytes))

  later_bytes : (a b : Waiting) (items : List Heard) (first more : List ℕ) → LeavesOff (with_bytes a first) items b
      → LeavesOff (with_bytes a (first ++ more)) items (with_bytes b more)
  later_bytes a b items first more h =
      subst (λ (l : List ℕ). LeavesOff (record { limits = a.limits; tokens = a.tokens; room = a.room; level = a.level; bytes = l }) items (with_bytes b more))
      (append_assoc a.bytes first more) (leaves_later (with_bytes a first) b items more h)

  comes_both : (p q r : Phase) (a b c : Waiting) (first more said then_said : List ℕ) → Comes s p a q b first said → Comes s q b r c more then_said
      → Comes s p a r c (first ++ more) (said ++ then_said)
  comes_both p q r a b c first more said then_said h g = record {
    items = h.items ++ g.items;
    runs = runs_both h.items g.items p q r said then_said h.runs g.runs;
    leaves = subst (λ (l : List Heard). LeavesOff (with_bytes a (first ++ more)) l c) (sym (heard_both h.items g.items))
        (leaves_more (with_bytes a (first ++ more)) (with_bytes b more) c (heard h.items) (heard g.items)
        (later_bytes a b (heard h.items) first more h.leaves) g.leaves);
  }

  no_bytes : (w : Waiting) → IsSameStream (with_bytes w []) w
  no_bytes w =
      (refl, λ more. ap (λ (l : List ℕ). reads_from w.limits w.tokens w.room w.level (l ++ more)) (sym (append-nil w.bytes)))

  -- nothing came
  pub stays : (p : Phase) (a : Waiting) → Comes s p a p a [] []
  stays p a = record { items = []; runs = (refl, refl); leaves = leaves_nothing (with_bytes a []) a (no_bytes a) }

  -- an item was taken
  pub comes_item : (p q : Phase) (a b : Waiting) (tokens : List Token) (bytes : List ℕ) → TakesItem a (Some tokens) b → Takes s p tokens q bytes
      → Comes s p a q b [] bytes
  comes_item p q a b tokens bytes h t = record {
    items = tokens ∷ [];
    runs = one_runs p q tokens bytes t;
    leaves = leaves_more (with_bytes a []) a b [] (Ok tokens ∷ []) (leaves_nothing (with_bytes a []) a (no_bytes a)) (next_leaves a b tokens h.0 h.1);
  }

  -- none was whole, and more bytes came
  pub comes_bytes : (p : Phase) (a b : Waiting) (read : List ℕ) → TakesItem a None b → Comes s p a p (with_bytes b read) read []
  comes_bytes p a b read h = record {
    items = [];
    runs = (refl, refl);
    leaves = leaves_later a b [] read (leaves_nothing a b h.1);
  }

  -- none was whole, and no more came
  pub comes_none : (p : Phase) (a b : Waiting) → TakesItem a None b → Comes s p a p b [] []
  comes_none p a b h = record {
    items = [];
    runs = (refl, refl);
    leaves = leaves_more (with_bytes a []) a b [] [] (leaves_nothing (with_bytes a []) a (no_bytes a)) (leaves_nothing a b h.1);
  }

  pub goes_both : (p q r : Phase) (a b c : Waiting) (i j k x y z : Option (List ℕ)) → Goes s p a q b i j x y → Goes s q b r c j k y z → Goes s p a r c i k x z
  goes_both p q r a b c i j k x y z h g = record {
    read = h.read ++ g.read;
    said = h.said ++ g.said;
    comes = comes_both p q r a b c h.read g.read h.said g.said h.comes g.comes;
    consumed = Consumes-trans i j k h.read g.read h.consumed g.consumed;
    written = Appends-trans x y z h.said g.said h.written g.written;
  }

  pub goes_nowhere : (p : Phase) (a : Waiting) (i x : Option (List ℕ)) → Goes s p a p a i i x x
  goes_nowhere p a i x = record {
    read = [];
    said = [];
    comes = stays p a;
    consumed = Consumes-nil i;
    written = Appends-nil x;
  }

  -- an item was taken, and its bytes were written
  pub goes_item : (p q : Phase) (a b : Waiting) (tokens : List Token) (bytes : List ℕ) (i x y : Option (List ℕ)) → TakesItem a (Some tokens) b
      → Takes s p tokens q bytes → Appends x y bytes → Goes s p a q b i i x y
  goes_item p q a b tokens bytes i x y taken takes written = record {
    read = [];
    said = bytes;
    comes = comes_item p q a b tokens bytes taken takes;
    consumed = Consumes-nil i;
    written = written;
  }

  -- none was whole
  pub goes_bytes : (more : Bool) (p : Phase) (a m b : Waiting) (i j x y : Option (List ℕ)) → TakesItem a None m → Reads more m b i j → Keeps x y
      → Goes s p a p b i j x y
  goes_bytes true p a m b i j x y none h kept = record {
    read = h.0;
    said = [];
    comes = subst (λ (w : Waiting). Comes s p a p w h.0 []) (sym h.2) (comes_bytes p a m h.0 none);
    consumed = h.1;
    written = Appends-kept x x y [] (Appends-nil x) kept;
  }
  goes_bytes false p a m b i j x y none h kept = record {
    read = [];
    said = [];
    comes = subst (λ (w : Waiting). Comes s p a p w [] []) (sym h.0) (comes_none p a m none);
    consumed = h.1;
    written = Appends-kept x x y [] (Appends-nil x) kept;
  }

  -- ---- as they are come by

  pub goes_taken : (p q : Phase) (a m b : Waiting) (o : Option (List Token)) (tokens item : List Token) (i x y : Option (List ℕ)) → TakesItem a o m
      → o ≡ Some tokens → item ≡ tokens → b ≡ m → (bytes : List ℕ) × Takes s p item q bytes × Appends x y bytes → Goes s p a q b i i x y
  goes_taken p q a m b o tokens item i x y taken is same later did =
      let here = subst (λ (r : Option (List Token)). TakesItem a r m) is taken in
      let takes = subst (λ (l : List Token). Takes s p l q did.0) same did.1 in
      subst (λ (w : Waiting). Goes s p a q w i i x y) (sym later) (goes_item p q a m tokens did.0 i x y here takes did.2)

  pub goes_read : (r : Result Bool ServeFault) (p q : Phase) (a m b : Waiting) (o : Option (List Token)) (i j x y : Option (List ℕ)) → TakesItem a o m
      → o ≡ None → q ≡ p → IfOk r (λ more. Reads more m b i j) → Keeps x y → IfOk r (λ more. Goes s p a q b i j x y)
  goes_read (Ok more) p q a m b o i j x y taken is stays h kept =
      let none = subst (λ (t : Option (List Token)). TakesItem a t m) is taken in
      subst (λ (z : Phase). Goes s p a z b i j x y) (sym stays) (goes_bytes more p a m b i j x y none h kept)
  goes_read (Err e) p q a m b o i j x y taken is stays h kept = tt

  pub goes_more : (t : Served) (p q r : Phase) (a b c : Waiting) (i j k x y z : Option (List ℕ)) → t ≡ s → Goes s p a q b i j x y → Goes t q b r c j k y z
      → Goes s p a r c i k x z
  goes_more t p q r a b c i j k x y z same h g =
      goes_both p q r a b c i j k x y z h (subst (λ (u : Served). Goes u q b r c j k y z) same g)

  -- ---- the end

  same_reads : (a b : Waiting) → IsSameStream a b → reads_now b ≡ reads_now a
  same_reads a b h =
      ap (λ (l : List ℕ). reads_now (record { limits = b.limits; tokens = b.tokens; room = b.room; level = b.level; bytes = l })) (sym (append-nil b.bytes))
      ∙ h.1 []
      ∙ ap (λ (l : List ℕ). reads_now (record { limits = a.limits; tokens = a.tokens; room = a.room; level = a.level; bytes = l })) (append-nil a.bytes)

  -- no item is whole where none was
  pub none_left : (a b : Waiting) → TakesItem a None b → items_in b ≡ []
  none_left a b h = none_now b (same_reads a b h.1 ∙ h.0)

  pub done_unless : (more : Bool) (p : Phase) (a m b : Waiting) (i j : Option (List ℕ)) → TakesItem a None m → Reads more m b i j → DoneUnless more p b j
  done_unless true p a m b i j none h = tt
  done_unless false p a m b i j none h = inr (ap items_in h.0 ∙ none_left a m none, h.2)

  pub done_read : (r : Result Bool ServeFault) (p : Phase) (a m b : Waiting) (o : Option (List Token)) (i j : Option (List ℕ)) → TakesItem a o m → o ≡ None
      → IfOk r (λ more. Reads more m b i j) → IfOk r (λ more. DoneUnless more p b j)
  done_read (Ok more) p a m b o i j taken is h = done_unless more p a m b i j (subst (λ (t : Option (List Token)). TakesItem a t m) is taken) h
  done_read (Err e) p a m b o i j taken is h = tt

  with_none : (w : Waiting) → items_in (with_bytes w []) ≡ items_in w
  with_none w =
      ap (λ (l : List ℕ). items_in (record { limits = w.limits; tokens = w.tokens; room = w.room; level = w.level; bytes = l })) (append-nil w.bytes)

  taken_all : (input read rest : List ℕ) (items : List (List Token)) (after : Phase) (left : Waiting) → input ≡ read ++ rest
      → LeavesOff (with_bytes (fresh CLIENT_LIMITS []) read) (heard items) left → IsDone after left (Some rest) → AreTaken input items after
  taken_all input read rest items after left is leaves done = (
    items_in (with_bytes left rest),
    ap (items_of CLIENT_LIMITS) is ∙ sym (fresh_items CLIENT_LIMITS (read ++ rest)) ∙ leaves rest,
    done_or done,
  )
    where
      done_or : IsDone after left (Some rest) → (after ≡ Over) ⊎ (items_in (with_bytes left rest) ≡ [])
      done_or (inl over) = inl over
      done_or (inr end) = inr (ap (λ (l : List ℕ). items_in (with_bytes left l)) end.1 ∙ with_none left ∙ end.0)

  -- a whole connection
  pub is_served : (after : Phase) (left : Waiting) (input input' begun greeted output : Option (List ℕ)) → Appends begun greeted GREETING.now
      → Goes s Greeted (fresh CLIENT_LIMITS []) after left input input' greeted output → IsDone after left input'
      → IfSome input (λ came. (written : List ℕ) × IsServed s came written × Appends begun output written)
  is_served after left None input' begun greeted output first h done = tt
  is_served after left (Some came) None begun greeted output first h done = absurd h.consumed
  is_served after left (Some came) (Some rest) begun greeted output first h done = (
    GREETING.now ++ h.said,
    record {
      items = h.comes.items;
      after = after;
      said = h.said;
      taken = taken_all came h.read rest h.comes.items after left h.consumed h.comes.leaves done;
      runs = h.comes.runs;
      written = refl;
    },
    Appends-trans begun greeted output GREETING.now h.said first h.written,
  )
