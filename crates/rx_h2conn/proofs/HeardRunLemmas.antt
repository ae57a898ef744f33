-- Whatever calls stand between, a connection tells what the bytes tell.
use Rattle.std.proofs.Common.{◌⊎◌, ◌≡◌, ℕ, List, [], ◌∷◌, ◌++◌, append_assoc, append-nil, false, refl, sym, ap, subst, ◌∙◌, inl, inr, Option, None, Some, Result, Ok, Err, arith}
use Rattle.rx_h2frame.specs.declared.frame.FrameFault.{FrameFault}
use Rattle.rx_h2frame.specs.Frame.{Seen, Complete, Lacks, next}
use Rattle.rx_h2conn.specs.declared.fault.ConnFault.{ConnFault}
use Rattle.rx_h2conn.specs.declared.fault.ConnFault.TheVariants.{Protocol, NoMemory}
use Rattle.rx_h2conn.specs.Session.{Session, Reading, Event}
use Rattle.rx_h2conn.specs.Conn.{started}
use Rattle.rx_h2conn.specs.Open.{refusal}
use Rattle.rx_h2conn.specs.Steps.{code_of, judged, settled, more, unless_failed, byte, fed, broken}
use Rattle.rx_h2conn.specs.History.{Call, Feeds, Starves, Hands, Takes, Opens, Sends, Resets, after, run}
use Rattle.rx_h2conn.proofs.SoundLemmas.{open_at}
use Rattle.rx_h2conn.proofs.FedLemmas.{fed_failed, byte_failed, byte_ready}
use Rattle.rx_h2conn.specs.Part.{part}
use Rattle.rx_h2conn.specs.Incoming.{Incoming, nothing, seen_in, rest_in, byte_in, incoming}
use Rattle.rx_h2conn.specs.Carried.{bytes_unless}
use Rattle.rx_h2conn.specs.Heard.{fed_by, all_fed, lawful_in, lawful_by, all_lawful, handed_by, all_handed, Hears}
use Rattle.rx_h2conn.proofs.HearingLemmas.{Hearing, hearing_quiet}
use Rattle.rx_h2conn.proofs.HeardFrameLemmas.{Goes, Halts, halts, goes_by}
use Rattle.rx_h2conn.proofs.HeardCallLemmas.{hearing_emptied, hearing_handed, hearing_sent, hearing_given_up, hearing_opened, hearing_unless, run_failed, none_before}

-- what waits for a whole frame is the same
pub record Together (h : List Event) (r : Reading) (t : Incoming) : Type 0 where
  pub hears : Hearing h r.state t
  pub rest : t.rest ≡ r.rest

pub same_hearing : (h : List Event) (s : Session) (t : Incoming) (rest : List ℕ) → Hearing h s t → Hearing h s (record t { rest = rest })
same_hearing h s t rest x = record { going = x.going; decoder = x.decoder; sequence = x.sequence; opened = x.opened; unopened = x.unopened; silent = x.silent }

-- a byte leaves both together, or it breaks a rule and tells nothing
abbrev pub Follows : List Event → Reading → Reading → Incoming → Type 0
Follows h old new u = ((new.state.fault ≡ old.state.fault) × Together h new u) ⊎ Halts old.state new.state

pub follows_frame : (h : List Event) (r n : Reading) (u : Incoming) → n.rest ≡ [] → Goes h r.state u n.state → Follows h r n (record u { rest = [] })
follows_frame h r n u rest (inl hear) = inl (hear.0, record { hears = same_hearing h _ _ [] hear.1; rest = sym rest })
follows_frame h r n u rest (inr bad) = inr bad

pub both_judged : (x : Result Seen FrameFault) (h : List Event) (r : Reading) (t : Incoming) → Together h r t → Follows h r (judged r x) (seen_in t x)
both_judged (Err e) h r t b = inr (halts r.state _ (Protocol (code_of e)) refl refl refl)
both_judged (Ok (Lacks n)) h r t b = inl (refl, b)
both_judged (Ok (Complete f)) h r t b = follows_frame h r _ _ refl (goes_by f.kind h r.state t f b.hears)

pub both_settled : (h : List Event) (r : Reading) (t : Incoming) → Together h r t → Follows h r (settled r) (rest_in t)
unfolding settled rest_in
both_settled h r t b =
    subst (λ (x : List ℕ). Follows h r (judged r (next 16384 r.rest)) (seen_in t (next 16384 x))) (sym b.rest)
    (both_judged (next 16384 r.rest) h r t b)

pub byte_going : (t : Incoming) (b : ℕ) → t.broken ≡ false → byte_in t b ≡ rest_in (record t { rest = t.rest ++ b ∷ [] })
unfolding byte_in
byte_going t b e = rw e refl

pub both_byte : (h : List Event) (r : Reading) (t : Incoming) (b : ℕ) → Together h r t → r.state.fault ≡ None → Follows h r (byte r b) (byte_in t b)
both_byte h r t b both none =
    let is = byte_ready r b none in
    let start : Together h (more r (b ∷ [])) (record t { rest = t.rest ++ b ∷ [] }) = record { hears = same_hearing h _ t _ both.hears; rest = ap (λ (x : List ℕ). x ++ b ∷ []) both.rest } in
    rw (is, byte_going t b both.hears.going) (both_settled h (more r (b ∷ [])) (record t { rest = t.rest ++ b ∷ [] }) start)

pub incoming_append : (t : Incoming) (a b : List ℕ) → incoming t (a ++ b) ≡ incoming (incoming t a) b
incoming_append t [] b = refl
incoming_append t (x ∷ a) b = incoming_append (byte_in t x) a b

-- What was told is what a front of the past bytes tells: all of them while no rule is broken.
pub record Along (h : List Event) (r : Reading) (past front : List ℕ) : Type 0 where
  pub later : List ℕ
  pub whole : past ≡ front ++ later
  pub t : Incoming
  pub hears : Hearing h r.state t
  pub events : t.events ≡ (incoming nothing front).events
  pub all : r.state.fault ≡ None → later ≡ []
  pub same : r.state.fault ≡ None → t ≡ incoming nothing front
  pub rest : r.state.fault ≡ None → t.rest ≡ r.rest

-- bytes after a fault count for nothing
pub along_later : (h : List Event) (r : Reading) (past front p : List ℕ) (e : ConnFault) → r.state.fault ≡ Some e → Along h r past front → Along h r (past ++ p) front
along_later h r past front p e is a =
    let bad : r.state.fault ≡ None → ⊥ = λ none. let no : None ≡ Some e = sym none ∙ is in absurd cc in
    record {
      later = a.later ++ p;
      whole = ap (λ (x : List ℕ). x ++ p) a.whole ∙ append_assoc front a.later p;
      t = a.t;
      hears = a.hears;
      events = a.events;
      all = λ none. absurd (bad none);
      same = λ none. absurd (bad none);
      rest = λ none. absurd (bad none);
    }

-- all bytes so far are the front
pub past_front : (h : List Event) (r : Reading) (past front : List ℕ) → Along h r past front → r.state.fault ≡ None → past ≡ front
past_front h r past front a none = a.whole ∙ (ap (λ (x : List ℕ). front ++ x) (a.all none) ∙ append-nil front)

pub along_next : (h : List Event) (r : Reading) (past front : List ℕ) (b : ℕ) (a : Along h r past front) → r.state.fault ≡ None → Together h (byte r b) (byte_in a.t b) → Along h (byte r b) (past ++ b ∷ []) (front ++ b ∷ [])
along_next h r past front b a none two =
    let same : byte_in a.t b ≡ incoming nothing (front ++ b ∷ []) = ap (λ (x : Incoming). byte_in x b) (a.same none) ∙ sym (incoming_append nothing front (b ∷ [])) in
    record {
      later = [];
      whole = ap (λ (x : List ℕ). x ++ b ∷ []) (past_front h r past front a none) ∙ sym (append-nil (front ++ b ∷ []));
      t = byte_in a.t b;
      hears = two.hears;
      events = ap (λ (x : Incoming). x.events) same;
      all = λ _. refl;
      same = λ _. same;
      rest = λ _. two.rest;
    }

pub along_halted : (h : List Event) (r : Reading) (past front : List ℕ) (b : ℕ) (a : Along h r past front) → r.state.fault ≡ None → Halts r.state (byte r b).state → Along h (byte r b) (past ++ b ∷ []) front
along_halted h r past front b a none bad =
    let new = (byte r b).state in
    record {
      later = b ∷ [];
      whole = ap (λ (x : List ℕ). x ++ b ∷ []) (past_front h r past front a none);
      t = record (a.t) { decoder = new.decoder; sequence = new.sequence };
      hears = hearing_quiet h r.state new a.t _ a.hears bad.quiet a.hears.going refl refl refl;
      events = a.events;
      all = λ fine. absurd (bad.failed fine);
      same = λ fine. absurd (bad.failed fine);
      rest = λ fine. absurd (bad.failed fine);
    }

pub front_kept : (o : Option ConnFault) (front bytes : List ℕ) → o ≡ None → front ++ bytes_unless o bytes ≡ front ++ bytes
front_kept None front bytes none = refl
front_kept (Some e) front bytes none = absurd cc

pub front_left : (o : Option ConnFault) (front bytes : List ℕ) → (o ≡ None → ⊥) → front ++ bytes_unless o bytes ≡ front
front_left None front bytes bad = absurd (bad refl)
front_left (Some e) front bytes bad = append-nil front

pub along_byte : (h : List Event) (r : Reading) (past front : List ℕ) (b : ℕ) → Along h r past front → r.state.fault ≡ None → Along h (byte r b) (past ++ b ∷ []) (front ++ bytes_unless (byte r b).state.fault (b ∷ []))
along_byte h r past front b a none =
    elim (both_byte h r a.t b (record { hears = a.hears; rest = a.rest none }) none) as (λ _. Along h (byte r b) (past ++ b ∷ []) (front ++ bytes_unless (byte r b).state.fault (b ∷ []))) [
      | inl two ↦ subst (Along h (byte r b) (past ++ b ∷ [])) (sym (front_kept (byte r b).state.fault front (b ∷ []) (two.0 ∙ none))) (along_next h r past front b a none two.1)
      | inr bad ↦ subst (Along h (byte r b) (past ++ b ∷ [])) (sym (front_left (byte r b).state.fault front (b ∷ []) bad.failed)) (along_halted h r past front b a none bad)
    ]

pub lawful_failed : (r : Reading) (e : ConnFault) (p : List ℕ) → r.state.fault ≡ Some e → lawful_in r p ≡ []
lawful_failed r e [] is = refl
lawful_failed r e (b ∷ p) is =
    let same = byte_failed r e b is in
    rw (same, is) refl

pub lawful_more : (o : Option ConnFault) (n : Reading) (front p : List ℕ) (b : ℕ) → n.state.fault ≡ o → (front ++ bytes_unless o (b ∷ [])) ++ lawful_in n p ≡ front ++ bytes_unless o (b ∷ lawful_in n p)
lawful_more None n front p b is = append_assoc front (b ∷ []) (lawful_in n p)
lawful_more (Some e) n front p b is = ap (λ (x : List ℕ). (front ++ []) ++ x) (lawful_failed n e p is) ∙ append-nil (front ++ [])

pub along_fed : (p : List ℕ) (h : List Event) (r : Reading) (past front : List ℕ) → Along h r past front → Along h (fed r p) (past ++ p) (front ++ lawful_in r p)
along_fed [] h r past front a = rw (append-nil past, append-nil front) a
along_fed (b ∷ p) h r past front a =
    elim r.state.fault as (λ o. r.state.fault ≡ o → Along h (fed (byte r b) p) (past ++ b ∷ p) (front ++ lawful_in r (b ∷ p))) [
      | None ↦ λ is.
          let n = byte r b in
          let rest = along_fed p h n (past ++ b ∷ []) (front ++ bytes_unless n.state.fault (b ∷ [])) (along_byte h r past front b a is) in
          subst (Along h (fed n p) (past ++ b ∷ p)) (lawful_more n.state.fault n front p b refl)
          (subst (λ (x : List ℕ). Along h (fed n p) x ((front ++ bytes_unless n.state.fault (b ∷ [])) ++ lawful_in n p)) (append_assoc past (b ∷ []) p) rest)
      | Some e ↦ λ is.
          subst (Along h (fed (byte r b) p) (past ++ b ∷ p)) (sym (ap (λ (x : List ℕ). front ++ x) (lawful_failed r e (b ∷ p) is) ∙ append-nil front))
          (subst (λ (x : Reading). Along h x (past ++ b ∷ p) front) (sym (fed_failed r e (b ∷ p) is)) (along_later h r past front (b ∷ p) e is a))
    ] refl

-- a call that feeds nothing
pub along_idle : (h g : List Event) (r n : Reading) (past front : List ℕ) → Along h r past front → ((t : Incoming) → Hearing h r.state t → Hearing g n.state t) → n.rest ≡ r.rest → (n.state.fault ≡ None → r.state.fault ≡ None) → Along g n (past ++ []) (front ++ [])
along_idle h g r n past front a goes rest fault = rw (append-nil past, append-nil front) (record {
  later = a.later;
  whole = a.whole;
  t = a.t;
  hears = goes a.t a.hears;
  events = a.events;
  all = λ none. a.all (fault none);
  same = λ none. a.same (fault none);
  rest = λ none. a.rest (fault none) ∙ sym rest;
})

pub along_starved : (o : Option ConnFault) (h : List Event) (r : Reading) (past front : List ℕ) → ((unless_failed o r (broken r)).state.fault ≡ Some NoMemory → ⊥) → Along h r past front → Along h (unless_failed o r (broken r)) past front
along_starved None h r past front not a = absurd (not refl)
along_starved (Some e) h r past front not a = a

pub along_nothing : (h : List Event) (r : Reading) (past front : List ℕ) → Along h r past front → Along (h ++ []) r past front
along_nothing h r past front a = rw (append-nil h) a

pub along_after : (c : Call) (h : List Event) (r : Reading) (past front : List ℕ) → ((after r c).state.fault ≡ Some NoMemory → ⊥) → Along h r past front → Along (h ++ handed_by r c) (after r c) (past ++ fed_by c) (front ++ lawful_by r c)
along_after (Feeds piece) h r past front not a = along_nothing h _ _ _ (along_fed piece h r past front a)
along_after Starves h r past front not a = along_nothing h _ _ _ (rw (append-nil past, append-nil front) (along_starved r.state.fault h r past front not a))
along_after Hands h r past front not a = along_idle h _ r _ past front a (λ t x. hearing_handed r.state.events h r.state t refl x) refl (none_before (Hands ∷ []) r)
along_after Takes h r past front not a = along_nothing h _ _ _ (along_idle h h r _ past front a (λ t x. hearing_emptied h r.state t x) refl (none_before (Takes ∷ []) r))
along_after (Opens fields last) h r past front not a = along_nothing h _ _ _ (along_idle h h r _ past front a (λ t x. hearing_unless (refusal r.state) h r.state _ t x (hearing_opened h r.state t fields last x)) refl (none_before (Opens fields last ∷ []) r))
along_after (Sends id piece last) h r past front not a = along_nothing h _ _ _ (along_idle h h r _ past front a (λ t x. hearing_unless r.state.fault h r.state _ t x (hearing_sent h r.state t id piece last x)) refl (none_before (Sends id piece last ∷ []) r))
along_after (Resets id code) h r past front not a = along_nothing h _ _ _ (along_idle h h r _ past front a (λ t x. hearing_unless r.state.fault h r.state _ t x (hearing_given_up h r.state t id code x)) refl (none_before (Resets id code ∷ []) r))

pub along_run : (cs : List Call) (h : List Event) (r : Reading) (past front : List ℕ) → ((run r cs).state.fault ≡ Some NoMemory → ⊥) → Along h r past front → Along (h ++ all_handed r cs) (run r cs) (past ++ all_fed cs) (front ++ all_lawful r cs)
along_run [] h r past front not a = along_nothing h _ _ _ (rw (append-nil past, append-nil front) a)
along_run (c ∷ cs) h r past front not a =
    let one = along_after c h r past front (λ bad. not (run_failed cs (after r c) NoMemory bad)) a in
    let rest = along_run cs (h ++ handed_by r c) (after r c) (past ++ fed_by c) (front ++ lawful_by r c) not one in
    rw (sym (append_assoc h (handed_by r c) (all_handed (after r c) cs)), sym (append_assoc past (fed_by c) (all_fed cs)), sym (append_assoc front (lawful_by r c) (all_lawful (after r c) cs))) rest

pub along_started : Along [] started [] []
along_started = record {
  later = [];
  whole = refl;
  t = nothing;
  hears = record {
    going = refl;
    decoder = refl;
    sequence = refl;
    opened = λ id is kept. absurd (let small = open_at started.state id is in omega (arith, small));
    unopened = λ id is. record { same = refl; ended = refl };
    silent = λ id is. refl;
  };
  events = refl;
  all = λ _. refl;
  same = λ _. refl;
  rest = λ _. refl;
}

pub hears : (calls : List Call) → Hears started calls
hears calls = λ not.
    let a = along_run calls [] started [] [] not along_started in
    let whole : (run started calls).state.fault ≡ None → all_fed calls ≡ all_lawful started calls = past_front _ _ _ _ a in
    record {
      front = (a.later, a.whole);
      part = λ id is kept. (a.hears.opened id is kept).same ∙ ap (part id) a.events;
      silent = λ id isnt. a.hears.silent id isnt;
      all = λ none. sym (whole none);
      unbroken = λ none. ap (λ (x : List ℕ). (incoming nothing x).broken) (whole none) ∙ (ap (λ (x : Incoming). x.broken) (sym (a.same none)) ∙ a.hears.going);
    }
