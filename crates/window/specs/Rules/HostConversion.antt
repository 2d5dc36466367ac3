-- Request M-109: the conversion at the host's boundary, in numbers.
use Rattle.std.specs.Prelude.{List, [], ◌∷◌, Bool, ◌&&◌, cond, ℕ, leb}
use Rattle.gap.specs.Rules.Checks.{Check, check}
use Rattle.editor.specs.Rules.Refusals.{SIZE, SESSION}
use Rattle.editor.specs.Rules.Bytes.{Stores}
use Rattle.window.specs.declared.host.Record.{Record}
use Rattle.window.specs.declared.host.Said.{Said}
use Rattle.window.specs.declared.host.HostReply.{HostReply}
use Rattle.window.specs.Rules.Core.{refusal}
use Rattle.window.specs.Rules.Conversion.{Converted, convertible, was_session, converted}
use Rattle.window.specs.Rules.Host.{session_from, record_from, said_of}

-- What the host is given: the answer, the record and the new side store.
pub record HostConverted : Type 0 where
  pub said : Said
  pub back : Record
  pub side : List ℕ

abbrev pub handed_back : HostReply → List ℕ → HostConverted
handed_back q side = record { said = q.said; back = q.back; side = side }

abbrev pub host_answering : Record → ℕ → List ℕ → HostConverted
host_answering n code side = record { said = said_of (refusal code 0); back = n; side = side }

abbrev pub converted_numbers : Converted → HostConverted
converted_numbers o = record { said = said_of o.answer; back = record_from o.session; side = o.side }

-- The mode is one, and the core's record was a session.
abbrev pub was_host_session : Record → Stores → Bool
was_host_session n b = leb n.mode 1 && was_session (session_from n) b

abbrev pub host_conversion_checks : Record → Stores → List ℕ → List Check
host_conversion_checks n b side = check SIZE (convertible n.rows n.columns b side) ∷ check SESSION (was_host_session n b) ∷ []

-- A mode that is none makes the record no session: SESSION in its order.
unfoldable pub host_converted : Record → Stores → List ℕ → HostConverted
host_converted n b side =
    cond (leb n.mode 1) (converted_numbers (converted (session_from n) b side))
    (host_answering n (cond (convertible n.rows n.columns b side) SESSION SIZE) side)
