-- The editor's examples on bytes: the same keys on record and stores, in quarters of 16 bytes, which are enough for them.
use Rattle.std.specs.Prelude.{List, [], ◌∷◌, ◌++◌, Bool, ◌&&◌, cond, ℕ, ◌-◌, ◌*◌, length, None}
use Rattle.window.specs.Words.{Key, Main}
use Rattle.gap.specs.Rules.Sequence.{zeros}
use Rattle.gap.specs.Rules.Doc.{Doc, content}
use Rattle.gap.specs.Tables.Written.{marked}
use Rattle.editor.specs.Rules.Refusals.{SESSION}
use Rattle.editor.specs.Rules.Plain.{refused}
use Rattle.editor.specs.Rules.Keys.{key}
use Rattle.editor.specs.Rules.Bytes.{sized, plain_of, editor_ok, Edited, unedited, edited_to}
use Rattle.editor.specs.Tables.KeyExamples.{Seen, KeyExample, states_all}
use Rattle.editor.specs.Tables.SessionPins.{sizes, lengths}

abbrev pub small : ℕ
small = 16

-- Record and stores with the cursor at the bar; no key was pressed yet.
abbrev pub standing_bytes : ℕ → Doc → Edited
standing_bytes T d =
    record {
      reply = unedited 0 (lengths (sizes (length d.l) (length d.r) 0 0) (sizes 0 0 0 0) 0 0 0 Main 0 0 None);
      stores =
          record { text = d.l ++ (zeros (T - length (content d)) ++ d.r); recall = zeros T; held = zeros T; side = zeros (4 * small) };
    }

-- The keys one after the other, with record and stores handed on untouched: each must find a session.
unfoldable pub editing_bytes : List Key → Edited → Edited
editing_bytes [] o = o
editing_bytes (k ∷ ks) o =
    let n = o.reply.lengths in
    let b = o.stores in
    editing_bytes ks
    (edited_to small n b (cond (sized small b && editor_ok small n b) (key (length b.text) small k (plain_of small n b)) (refused SESSION)))

abbrev pub seen_of : Edited → Seen
seen_of o = record { code = o.reply.code; report = o.reply.report; state = plain_of small o.reply.lengths o.stores }

unfoldable pub on_bytes : KeyExample → Bool
on_bytes e = states_all (seen_of (editing_bytes e.keys (standing_bytes e.T (marked e.at)))) e.facts
