-- A line whose keys come as bytes from a terminal: each key is pressed, and painted, as soon as it is there. (02, M-107.)
use Rattle.std.specs.Prelude.{List, [], ℕ}
use Rattle.window.specs.Words.{Key}
use Rattle.keyboard.specs.declared.Received.{Received}
use Rattle.keyboard.specs.declared.Received.TheVariants.{Pressed, More, Refused}
use Rattle.window.specs.declared.host_receive.Heard.{Heard}
use Rattle.keyboard.specs.Rules.Streams.{host, reading, keys_in, arrive_all}
use Rattle.window.specs.Rules.Machine.{Line, struck_line}
use Rattle.window.specs.Rules.Host.{numbers_of_key}
use Rattle.window.specs.Rules.HostRun.{HostLine, host_struck_line}

-- The keys that a stream of bytes reads as; its refusals press nothing.
abbrev pub keys_read : List ℕ → List Key
keys_read s = keys_in (reading s).items

-- The line after bytes that arrived in pieces.
abbrev pub received_line : List (List ℕ) → Line → Line
received_line pieces at = (arrive_all struck_line pieces (host at [])).at

-- At the host's boundary a key that was received goes on to the key call as its numbers.
abbrev pub host_struck_key : Key → HostLine → HostLine
host_struck_key k at = host_struck_line (numbers_of_key k) at

abbrev pub host_received_line : List (List ℕ) → HostLine → HostLine
host_received_line pieces at = (arrive_all host_struck_key pieces (host at [])).at

-- ---- What was received, in numbers

-- A key in the numbers that the key call takes, with the bytes used. Code 0 with 0 used is "more needed". (02, M-107.)
abbrev pub heard_numbers : ℕ → ℕ → ℕ → ℕ → ℕ → Heard
heard_numbers used kind a b c = record { code = 0; used = used; kind = kind; a = a; b = b; c = c }

unfoldable pub heard_key : Key → ℕ → Heard
heard_key k used = let x = numbers_of_key k in heard_numbers used x.kind x.a x.b x.c

unfoldable pub heard_of : Received → Heard
heard_of (Pressed k used) = heard_key k used
heard_of More = heard_numbers 0 0 0 0 0
heard_of (Refused code used) = record { code = code; used = used; kind = 0; a = 0; b = 0; c = 0 }
