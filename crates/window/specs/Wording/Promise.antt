-- What the calls promise of their outcome: answer, record and the bytes of all five stores, for every input. And what the routine for
-- terminals promises: answer and the bytes of the buffer.
use Rattle.std.specs.Prelude.{◌≡◌, List, [], ◌∷◌, true, ℕ, ◌-◌}
use Rattle.window.specs.Words.{Key, Frame, Session}
use Rattle.gap.specs.Rules.Numbers.{bit}
use Rattle.editor.specs.Rules.Plain.{Plain, Did}
use Rattle.window.specs.declared.host.Record.{Record}
use Rattle.window.specs.Rules.Window.{virtual, row_of, column_of, window}
use Rattle.window.specs.Rules.Core.{Lent, Called, tabled, is_session, held, opened, keyed}
use Rattle.window.specs.Rules.Terminal.{Bench, given}
use Rattle.window.specs.Rules.Sending.{SendOutcome, sending}
use Rattle.window.specs.Rules.Machine.{Line, received}
use Rattle.window.specs.Rules.Host.{session_from, is_host_session, host_held, KeyNumbers, Given, host_opened, host_keyed}
use Rattle.window.specs.Rules.HostRun.{HostBench, host_shown, HostLine, host_received}

abbrev pub OpenPromise : ℕ → ℕ → ℕ → Lent → Called → Type 0
OpenPromise n H W b o = o ≡ opened n H W b

abbrev pub KeyPromise : Session → Key → Lent → Called → Type 0
KeyPromise s k b o = o ≡ keyed s k b

abbrev pub SendPromise : ℕ → ℕ → ℕ → ℕ → ℕ → ℕ → List ℕ → List ℕ → SendOutcome → Type 0
SendPromise H W first last row column screen buffer p = p ≡ sending H W first last row column screen buffer

-- The same two calls at the host's boundary; the routine is the same there.
abbrev pub HostOpenPromise : ℕ → ℕ → ℕ → Lent → Given → Type 0
HostOpenPromise n H W b g = g ≡ host_opened n H W b

abbrev pub HostKeyPromise : Record → ℕ → ℕ → ℕ → ℕ → Lent → Given → Type 0
HostKeyPromise n kind a b c lent g = g ≡ host_keyed n kind a b c lent

-- What the routine promises of the bytes for a call's answer, and for one in numbers.
abbrev pub SendAfterPromise : Called → List ℕ → SendOutcome → Type 0
SendAfterPromise o buffer p =
    SendPromise o.session.frame.h o.session.frame.w o.answer.first o.answer.last o.answer.row o.answer.column
    o.lent.screen buffer p

abbrev pub HostSendAfterPromise : Given → List ℕ → SendOutcome → Type 0
HostSendAfterPromise g buffer p =
    SendPromise g.back.rows g.back.columns g.said.first g.said.last g.said.row g.said.column g.lent.screen buffer p

-- ---- What the demands say of outcomes that meet these promises

-- What a key on a session leads to: stores as tabled, a session again, holding the plain state p.
pub record Follows (o : Called) (p : Plain) : Type 0 where
  pub fit : tabled o.session.frame.h o.session.frame.w o.lent ≡ true
  pub session : is_session o.session o.lent.stores ≡ true
  pub holds : held o.session o.lent.stores ≡ p

-- The same of what a host is given.
pub record HostFollows (g : Given) (p : Plain) : Type 0 where
  pub fit : tabled g.back.rows g.back.columns g.lent ≡ true
  pub session : is_host_session g.back g.lent.stores ≡ true
  pub holds : host_held g.back g.lent.stores ≡ p

-- What an accepted call tells a host: what the plain editor did, seen through the window f.
pub record HostTold (g : Given) (did : Did Plain) (f : Frame) : Type 0 where
  pub code : g.said.code ≡ 0
  pub place : g.said.place ≡ 0
  pub steps : g.said.steps ≡ did.report.steps
  pub lines : g.said.lines ≡ did.report.lines
  pub bell : g.said.bell ≡ bit did.report.bell
  pub row : g.said.row ≡ row_of (virtual did.state) - f.r
  pub column : g.said.column ≡ column_of (virtual did.state) - f.c
  pub frame : (session_from g.back).frame ≡ f
  pub screen : g.lent.screen ≡ window f (virtual did.state)

-- Demand 3: any run of calls, each handed what the one before gave back, with the terminal given the named rows.
pub data BenchRun : List Key → Bench → Bench → Type 0 where
  at-end : {at : Bench} → BenchRun [] at at
  press : {k : Key} {ks : List Key} {at end : Bench} (o : Called) → KeyPromise at.called.session k at.called.lent o
      → BenchRun ks (given o at.terminal) end → BenchRun (k ∷ ks) at end

-- Demand 3 on a line: any run of calls, each handed what the one before gave back, with the routine after each and its bytes sent.
pub data LineRun : List Key → Line → Line → Type 0 where
  at_rest : {at : Line} → LineRun [] at at
  strike : {k : Key} {ks : List Key} {at end : Line} (o : Called) (p : SendOutcome)
      → KeyPromise at.called.session k at.called.lent o → SendAfterPromise o at.buffer p
      → LineRun ks (received o p at.terminal) end → LineRun (k ∷ ks) at end

-- The same two at the host's boundary, in numbers.
pub data HostBenchRun : List KeyNumbers → HostBench → HostBench → Type 0 where
  host-at-end : {at : HostBench} → HostBenchRun [] at at
  host-press : {x : KeyNumbers} {xs : List KeyNumbers} {at end : HostBench} (g : Given)
      → HostKeyPromise at.given.back x.kind x.a x.b x.c at.given.lent g
      → HostBenchRun xs (host_shown g at.terminal) end → HostBenchRun (x ∷ xs) at end

pub data HostLineRun : List KeyNumbers → HostLine → HostLine → Type 0 where
  host-at-rest : {at : HostLine} → HostLineRun [] at at
  host-strike : {x : KeyNumbers} {xs : List KeyNumbers} {at end : HostLine} (g : Given) (p : SendOutcome)
      → HostKeyPromise at.given.back x.kind x.a x.b x.c at.given.lent g → HostSendAfterPromise g at.buffer p
      → HostLineRun xs (host_received g p at.terminal) end → HostLineRun (x ∷ xs) at end
