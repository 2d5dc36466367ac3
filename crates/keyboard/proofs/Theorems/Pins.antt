-- The definitions of this layer give each example of its tables.
use mathlib.Core.Path.{◌≡◌, refl}
use mathlib.Core.List.{map}
use lib.ListN.{length}
use Rattle.gap.specs.Rules.Sequence.{same_bytes, counted}
use Rattle.gap.specs.Rules.Strings.{bytes}
use Rattle.keyboard.specs.Words.{Pressed}
use Rattle.keyboard.specs.Rules.Keyboard.{bytes_of, key_among, byte_received, letter_received, arrow_received, received}
use Rattle.keyboard.specs.Rules.Streams.{turns, reading, reading_on, reading_pieces, joined}
use Rattle.keyboard.specs.Tables.KeyboardPins.{wanted, computed, keyboard_pins, letter_pins, all_keys}
use Rattle.keyboard.specs.Tables.StreamPins.{read_as, stream_pins}

pub keyboard-pinned : map computed keyboard_pins ≡ map wanted keyboard_pins
unfolding bytes same_bytes bytes_of key_among byte_received letter_received arrow_received received
keyboard-pinned = refl

pub letters-pinned : map computed letter_pins ≡ map wanted letter_pins
unfolding bytes same_bytes bytes_of key_among byte_received letter_received arrow_received received
letters-pinned = refl

-- The whole table at once: each key's bytes read as that key, and use them all.
pub table-pinned : map (λ k. received (bytes_of k)) all_keys ≡ map (λ k. Pressed k (length (bytes_of k))) all_keys
unfolding bytes same_bytes counted bytes_of key_among byte_received letter_received arrow_received received
table-pinned = refl

pub table-length : length all_keys ≡ 126
unfolding counted
table-length = refl

pub streams-pinned : map (λ s. reading_pieces s.pieces) stream_pins ≡ map read_as stream_pins
unfolding bytes same_bytes bytes_of key_among byte_received letter_received arrow_received received turns reading reading_on
streams-pinned = refl

-- The same streams in one piece.
pub streams-joined : map (λ s. reading (joined s.pieces)) stream_pins ≡ map read_as stream_pins
unfolding bytes same_bytes bytes_of key_among byte_received letter_received arrow_received received turns reading joined
streams-joined = refl
