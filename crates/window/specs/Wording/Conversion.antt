-- What the conversion promises of its outcome, for every input: answer, record and the bytes of the new side store.
use Rattle.std.specs.Prelude.{◌≡◌, List, ℕ, Result, Ok, Err}
use Rattle.window.specs.Words.{Session}
use Rattle.editor.specs.Rules.Bytes.{Stores}
use Rattle.window.specs.declared.host.Record.{Record}
use Rattle.editor.specs.declared.refusals.Refusal.{Refusal}
use Rattle.editor.specs.Rules.Refusals.{number}
use Rattle.window.specs.Rules.Core.{Reply, refusal}
use Rattle.window.specs.Rules.Conversion.{Converted, converted}
use Rattle.window.specs.Rules.HostConversion.{HostConverted, host_converted}

-- A reply with the new side store as the outcome.
abbrev pub conversion : Reply → List ℕ → Converted
conversion r side = record { answer = r.answer; session = r.session; side = side }

abbrev pub answered_reply : ℕ → Session → Reply
answered_reply code s = record { answer = refusal code 0; session = s }

-- What the code answers, as a reply; the record is the one that was given.
abbrev pub convert_reply : Session → Result (Unit {0}) Refusal → Reply
convert_reply s (Ok _) = answered_reply 0 s
convert_reply s (Err e) = answered_reply (number e) s

abbrev pub ConvertPromise : Session → Stores → List ℕ → Converted → Type 0
ConvertPromise s b side o = o ≡ converted s b side

-- The same at the host's boundary.
abbrev pub HostConvertPromise : Record → Stores → List ℕ → HostConverted → Type 0
HostConvertPromise n b side g = g ≡ host_converted n b side
