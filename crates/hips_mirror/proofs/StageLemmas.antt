-- Stages of a copy, one after another.
use Rattle.std.proofs.Common.{◌≡◌, ℕ, Bool, false, Option, List, [], ◌∷◌, ◌++◌, inl, inr, Result, Ok, Err, refl, sym, ap, ◌∙◌, subst, append_assoc}
use Rattle.std.specs.Prelude.{IfErr, ⊤}
use Rattle.std.specs.Io.KnownBytes.{Consumes}
use Rattle.std.proofs.KnownBytes.{Consumes-nil, Consumes-trans}
use Rattle.survey_link.specs.Link.{CountsFault}
use Rattle.survey_link.specs.declared.source.Source as source
use Rattle.survey_link.specs.declared.sink.Sink as sink
use Rattle.http_frame.proofs.ReadLemmas.{reads_consume}
use Rattle.mirror_frame.specs.Exchange.{Talk, IsExchanged, BreaksOff, LastOf, due_of}
use Rattle.mirror_frame.specs.Reply.{IsReply, IsCutReply}
use Rattle.mirror_frame.specs.Peer.{talk, body_of, Goes}
use Rattle.mirror_frame.specs.declared.peer.Peer.{Peer}
use Rattle.mirror_frame.specs.declared.ask.Ask.{Ask}
use Rattle.mirror_frame.specs.declared.due.Due.{Due}
use Rattle.mirror_frame.specs.Reading.{read_failed, write_failed}
use Rattle.mirror_frame.specs.declared.reading.ReplyStop.{ReplyStop}
use Rattle.mirror_frame.specs.declared.reading.ReplyStop.TheVariants as stopping
use Rattle.mirror_frame.proofs.Exchanges.{converses_then, stops_then, stops_more, stops_behind, stops_one, exchanges_one}
use Rattle.hips_mirror.specs.declared.refusal.MirrorRefusal.{MirrorRefusal}
use Rattle.hips_mirror.specs.declared.refusal.MirrorRefusal.TheVariants as refusal
use Rattle.hips_mirror.specs.Stages.{Reaches, IsRefusedIn, IsRefused, TrueOfUnread, IsOfBody, Tells, RefusedBy, of_stop}
use Rattle.hips_mirror.specs.Mirror.{RefusesReply, RefusesAt, is_read_fault, is_write_fault, is_shelf_fault}
use Rattle.hips_mirror.proofs.ToldLemmas.{true_before, true_so, true_of_all, reply_of_more}

-- a body that is refused is no fault
of_body : (why : MirrorRefusal) → IsOfBody why → (is_read_fault why ≡ false) × (is_write_fault why ≡ false) × (is_shelf_fault why ≡ false)
of_body (refusal.Reply request) body = absurd body
of_body refusal.Properties body = (refl, refl, refl)
of_body refusal.Cover body = (refl, refl, refl)
of_body (refusal.TooLarge count) body = (refl, refl, refl)
of_body (refusal.Leaf cell fault) body = (refl, refl, refl)
of_body (refusal.Differs path) body = (refl, refl, refl)
of_body refusal.Cut body = absurd body
of_body refusal.ReadFault body = absurd body
of_body refusal.WriteFault body = absurd body
of_body refusal.ShelfFault body = absurd body
of_body refusal.OutOfMemory body = (refl, refl, refl)

-- a request that stops is no fault of the shelf
of_request : (stopped : ReplyStop) (request : ℕ) → is_shelf_fault (of_stop stopped request) ≡ false
of_request stopping.Wrong request = refl
of_request stopping.Cut request = refl
of_request stopping.ReadFault request = refl
of_request stopping.WriteFault request = refl
of_request stopping.OutOfMemory request = refl

module _ {S K : Type 0} (told_source : source.Ghosts S) (told_sink : sink.Ghosts K) where
  -- ---- a reply

  module _ (ask : Ask) (due : Due) (body : List ℕ) (old new : Talk S K) (one : IsExchanged told_source told_sink ask due body old new) where
    exchange_taken : Consumes (told_source.left old.src) (told_source.left new.src) one.came
    exchange_taken =
        subst (λ s. Consumes (told_source.left s) (told_source.left new.src) one.came) one.sent.src
        (reads_consume told_source.left told_source.readings (IsCutReply due) one.asked.held one.came one.asked.src new.src one.read.reads)

    exchange_leads : (more : List ℕ) → IsReply due (old.held ++ (one.came ++ more)) body (new.held ++ more)
    exchange_leads more =
        subst (λ held. IsReply due (held ++ (one.came ++ more)) body (new.held ++ more)) one.sent.held
        (subst (λ bytes. IsReply due bytes body (new.held ++ more)) (append_assoc one.asked.held one.came more)
        (reply_of_more due (one.asked.held ++ one.came) more body new.held one.reply))

  -- ---- counts of faults

  pub goes_then : (a b : Bool) (x y z : Peer S K) → Goes told_source told_sink false false x y → Goes told_source told_sink a b y z → Goes told_source told_sink a b x z
  goes_then a b x y z first second = record {
    source = subst (λ n. CountsFault a n (told_source.faults z.src.now)) first.source second.source;
    sink = subst (λ n. CountsFault b n (told_sink.faults z.sink.now)) first.sink second.sink;
    same_source = second.same_source ∙ first.same_source;
    same_sink = second.same_sink ∙ first.same_sink;
  }

  pub body_goes : (x y : Peer S K) (why : MirrorRefusal) → IsOfBody why → Goes told_source told_sink false false x y → Goes told_source told_sink (is_read_fault why) (is_write_fault why) x y
  body_goes x y why body goes = let none = of_body why body in rw (none.0, none.1) goes

  pub stop_goes : (x y : Peer S K) (stopped : ReplyStop) (request : ℕ) → Goes told_source told_sink (read_failed {A = Option ℕ} (Err stopped)) (write_failed {A = Option ℕ} (Err stopped)) x y
      → Goes told_source told_sink (is_read_fault (of_stop stopped request)) (is_write_fault (of_stop stopped request)) x y
  stop_goes x y stopping.Wrong request goes = goes
  stop_goes x y stopping.Cut request goes = goes
  stop_goes x y stopping.ReadFault request goes = goes
  stop_goes x y stopping.WriteFault request goes = goes
  stop_goes x y stopping.OutOfMemory request goes = goes

  pub no_shelf : (x y : Peer S K) (why : MirrorRefusal) → IsRefused told_source told_sink x y why → is_shelf_fault why ≡ false
  no_shelf x y why refused = last_of refused.stopped.stops.rest refused.stopped.stops.last
    where
      last_of : (asks : List Ask) → LastOf told_source told_sink refused.k (Tells why) (IsOfBody why) asks refused.stopped.stops.mid (talk y) → is_shelf_fault why ≡ false
      last_of [] last = (of_body why last.1).2
      last_of (ask ∷ asks) (inl last) = (of_body why last.1).2
      last_of (ask ∷ asks) (inr last) = ap is_shelf_fault last.1.1 ∙ of_request last.0 last.1.0

  -- ---- two stages

  -- none was asked for
  pub reaches_none : (k : ℕ) (L : List ℕ → List ℕ → Type 0) → ((p : List ℕ) → L p p) → (x : Peer S K) → Reaches told_source told_sink k [] L x x
  reaches_none k L same x = record {
    conversed = refl;
    came = [];
    taken = Consumes-nil (told_source.left x.src.now);
    leads = λ more. same ((talk x).held ++ more);
    goes = record { source = refl; sink = refl; same_source = refl; same_sink = refl };
  }

  pub reaches_then : (k : ℕ) (asks more : List Ask) (L M N : List ℕ → List ℕ → Type 0) (x y z : Peer S K) → ((p q r : List ℕ) → L p q → M q r → N p r)
      → Reaches told_source told_sink k asks L x y → Reaches told_source told_sink k more M y z → Reaches told_source told_sink k (asks ++ more) N x z
  reaches_then k asks more L M N x y z both first second = record {
    conversed = converses_then told_source told_sink k asks more (talk x) (talk y) (talk z) first.conversed second.conversed;
    came = first.came ++ second.came;
    taken = Consumes-trans (told_source.left x.src.now) (told_source.left y.src.now) (told_source.left z.src.now) first.came second.came first.taken second.taken;
    leads = λ rest.
        subst (λ bytes. N ((talk x).held ++ bytes) ((talk z).held ++ rest)) (sym (append_assoc first.came second.came rest))
        (both ((talk x).held ++ (first.came ++ (second.came ++ rest))) ((talk y).held ++ (second.came ++ rest)) ((talk z).held ++ rest) (first.leads (second.came ++ rest)) (second.leads rest));
    goes = goes_then false false x y z first.goes second.goes;
  }

  pub reaches_so : (k : ℕ) (asks : List Ask) (L M : List ℕ → List ℕ → Type 0) (x y : Peer S K) → ((p q : List ℕ) → L p q → M p q)
      → Reaches told_source told_sink k asks L x y → Reaches told_source told_sink k asks M x y
  reaches_so k asks L M x y so first = record {
    conversed = first.conversed;
    came = first.came;
    taken = first.taken;
    leads = λ more. so ((talk x).held ++ (first.came ++ more)) ((talk y).held ++ more) (first.leads more);
    goes = first.goes;
  }

  -- what is true of the unread bytes after a stage, and before it
  pub unread_then : (k : ℕ) (asks : List Ask) (L : List ℕ → List ℕ → Type 0) (R V : List ℕ → Type 0) (x y : Peer S K) → ((p q : List ℕ) → L p q → R q → V p)
      → Reaches told_source told_sink k asks L x y → TrueOfUnread told_source told_sink y R → TrueOfUnread told_source told_sink x V
  unread_then k asks L R V x y both first refused =
      true_before (told_source.left x.src.now) (told_source.left y.src.now) first.came (λ bytes. V ((talk x).held ++ bytes)) (λ bytes. R ((talk y).held ++ bytes)) first.taken
      (λ more r. both ((talk x).held ++ (first.came ++ more)) ((talk y).held ++ more) (first.leads more) r) refused

  pub unread_led : (k : ℕ) (asks : List Ask) (L : List ℕ → List ℕ → Type 0) (V : List ℕ → Type 0) (x y : Peer S K) → ((p q : List ℕ) → L p q → V p) → Reaches told_source told_sink k asks L x y
      → TrueOfUnread told_source told_sink x V
  unread_led k asks L V x y so first = unread_then k asks L (λ _. ⊤) V x y (λ p q l _. so p q l) first (true_of_all (told_source.left y.src.now) (λ _. ⊤) (λ _. tt))

  pub unread_so : (R V : List ℕ → Type 0) (x : Peer S K) → ((p : List ℕ) → R p → V p) → TrueOfUnread told_source told_sink x R → TrueOfUnread told_source told_sink x V
  unread_so R V x so refused =
      true_so (told_source.left x.src.now) (λ bytes. R ((talk x).held ++ bytes)) (λ bytes. V ((talk x).held ++ bytes)) (λ more r. so ((talk x).held ++ more) r) refused

  abbrev pub stopped_then : (k : ℕ) (asks more : List Ask) (L : List ℕ → List ℕ → Type 0) (R V : List ℕ → Type 0) (x y z : Peer S K) (why : MirrorRefusal) → ((p q : List ℕ) → L p q → R q → V p)
      → Reaches told_source told_sink k asks L x y → IsRefusedIn told_source told_sink k more R y z why → IsRefusedIn told_source told_sink k (asks ++ more) V x z why
  stopped_then k asks more L R V x y z why both first second = record {
    stops = stops_then told_source told_sink k (Tells why) (IsOfBody why) asks more (talk x) (talk y) (talk z) first.conversed second.stops;
    refused = unread_then k asks L R V x y both first second.refused;
    goes = goes_then (is_read_fault why) (is_write_fault why) x y z first.goes second.goes;
  }

  -- what is behind was not begun
  abbrev pub stopped_more : (k : ℕ) (asks more : List Ask) (R V : List ℕ → Type 0) (x y : Peer S K) (why : MirrorRefusal) → ((p : List ℕ) → R p → V p)
      → IsRefusedIn told_source told_sink k asks R x y why → IsRefusedIn told_source told_sink k (asks ++ more) V x y why
  stopped_more k asks more R V x y why so first = record {
    stops = stops_more told_source told_sink k (Tells why) (IsOfBody why) asks more (talk x) (talk y) first.stops;
    refused = unread_so R V x so first.refused;
    goes = first.goes;
  }

  abbrev pub stopped_so : (k : ℕ) (asks : List Ask) (R V : List ℕ → Type 0) (x y : Peer S K) (why : MirrorRefusal) → ((p : List ℕ) → R p → V p)
      → IsRefusedIn told_source told_sink k asks R x y why → IsRefusedIn told_source told_sink k asks V x y why
  stopped_so k asks R V x y why so first = record { stops = first.stops; refused = unread_so R V x so first.refused; goes = first.goes }

  -- a body that came is refused
  abbrev pub refused_here : (k : ℕ) (asks : List Ask) (L : List ℕ → List ℕ → Type 0) (V : List ℕ → Type 0) (x y : Peer S K) (why : MirrorRefusal) → IsOfBody why → ((p q : List ℕ) → L p q → V p)
      → Reaches told_source told_sink k asks L x y → IsRefusedIn told_source told_sink k asks V x y why
  refused_here k asks L V x y why body so first = record {
    stops = stops_behind told_source told_sink k (Tells why) (IsOfBody why) asks (talk x) (talk y) body first.conversed;
    refused = unread_led k asks L V x y so first;
    goes = body_goes x y why body first.goes;
  }

  -- ---- one request

  module _ (k : ℕ) (ask own : Ask) (due : Due) (x y : Peer S K) (same : own ≡ ask) (is : due ≡ due_of k ask) where
    pub one_reached : (L : List ℕ → List ℕ → Type 0) → ((p q : List ℕ) → IsReply due p (body_of y) q → L p q) → IsExchanged told_source told_sink own due (body_of y) (talk x) (talk y)
        → Goes told_source told_sink false false x y → Reaches told_source told_sink k (ask ∷ []) L x y
    one_reached L so exchanged goes = record {
      conversed = exchanges_one told_source told_sink k ask due (body_of y) (talk x) (talk y) is (subst (λ a. IsExchanged told_source told_sink a due (body_of y) (talk x) (talk y)) same exchanged);
      came = exchanged.came;
      taken = exchange_taken own due (body_of y) (talk x) (talk y) exchanged;
      leads = λ more. so ((talk x).held ++ (exchanged.came ++ more)) ((talk y).held ++ more) (exchange_leads own due (body_of y) (talk x) (talk y) exchanged more);
      goes = goes;
    }

    abbrev pub one_refused : (n request : ℕ) (why : MirrorRefusal) → n ≡ request
        → (stop : ReplyStop) × (why ≡ of_stop stop n) × BreaksOff told_source told_sink own due (talk x) (talk y) stop
        → TrueOfUnread told_source told_sink x (λ bytes. RefusesReply due n bytes why) → Goes told_source told_sink (is_read_fault why) (is_write_fault why) x y
        → IsRefusedIn told_source told_sink k (ask ∷ []) (λ bytes. RefusesReply due request bytes why) x y why
    one_refused n request why at off refused goes = record {
      stops = stops_one told_source told_sink k (Tells why) (IsOfBody why) ask due off.0 (talk x) (talk y) is (n, off.1) (subst (λ a. BreaksOff told_source told_sink a due (talk x) (talk y) off.0) same off.2);
      refused = subst (λ m. TrueOfUnread told_source told_sink x (λ bytes. RefusesReply due m bytes why)) at refused;
      goes = goes;
    }

    -- its reply, whose body is refused
    pub body_refused_in : {T : Type 0} (request : ℕ) (Wrong : MirrorRefusal → List ℕ → Type 0) (r : Result T MirrorRefusal)
        → IsExchanged told_source told_sink own due (body_of y) (talk x) (talk y) → Goes told_source told_sink false false x y → IfErr r (RefusedBy Wrong (body_of y)) → IfErr r IsOfBody
        → IfErr r (λ why. IsRefusedIn told_source told_sink k (ask ∷ []) (λ bytes. RefusesAt due request Wrong bytes why) x y why)
    body_refused_in request Wrong (Ok t) exchanged goes refused of_body = tt
    body_refused_in request Wrong (Err why) exchanged goes refused of_body =
        refused_here k (ask ∷ []) (λ bytes rest. IsReply due bytes (body_of y) rest) (λ bytes. RefusesAt due request Wrong bytes why) x y why of_body (by refused)
        (one_reached (λ bytes rest. IsReply due bytes (body_of y) rest) (λ p q reply. reply) exchanged goes)
      where
        by : RefusedBy Wrong (body_of y) why → (p q : List ℕ) → IsReply due p (body_of y) q → RefusesAt due request Wrong p why
        by (inl wrong) p q reply = inr (record { body = body_of y; rest = q; reply = reply; wrong = wrong })
        by (inr none) p q reply = inl (rw none tt)
