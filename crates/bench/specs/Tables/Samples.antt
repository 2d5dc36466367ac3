-- Scripts with what they print: document 01's sample, and one for each way in which a script ends early. proofs/Theorems/Samples shows
-- that the definitions print each of them.
use Rattle.std.specs.Prelude.{List, [], ◌∷◌, ◌++◌, Bool, true, ◌&&◌, ℕ}
use Prim.Native.String.{String}
use Rattle.gap.specs.Rules.Sequence.{same_bytes}
use Rattle.gap.specs.Rules.Strings.{bytes}
use Rattle.bench.specs.Rules.Run.{output}

pub record Sample : Type 0 where
  pub script : List ℕ
  pub prints : List ℕ

abbrev pub prints : String → String → Sample
prints script printed = record { script = bytes script; prints = bytes printed }

-- An opened deck of one row and two columns, then key lines, and what they print behind the opening's block.
abbrev pub on_deck : String → String → Sample
on_deck keys printed =
    record {
      script = bytes "rows=1\ncols=2\nstore=4\ntext=2\na\n\n" ++ bytes keys;
      prints = bytes "code=0\nsteps=0\nlines=0\nbell=0\nfirst=1\nlast=1\nrow=1\ncol=0\nline=a \n" ++ bytes printed;
    }

-- 01, the bench program: the sample.
abbrev pub document_sample : Sample
document_sample =
    record {
      script =
          bytes "rows=2\ncols=4\nstore=16\ntext=11\na=1\nbb=22\nc\n"
          ++ bytes "key=move-left-line-end\nkey=move-right-line-end\n";
      prints =
          bytes "code=0\nsteps=0\nlines=0\nbell=0\nfirst=1\nlast=2\nrow=1\ncol=0\nline=a=1 \nline=bb=2\n"
          ++ (bytes "code=0\nsteps=0\nlines=0\nbell=1\nfirst=0\nlast=0\nrow=1\ncol=0\nline=a=1 \nline=bb=2\n"
          ++ bytes "code=0\nsteps=3\nlines=0\nbell=0\nfirst=0\nlast=0\nrow=1\ncol=3\nline=a=1 \nline=bb=2\n");
    }

-- M-101: a block is marked, cut and pasted.
abbrev pub block_sample : Sample
block_sample =
    record {
      script = bytes "rows=1\ncols=3\nstore=4\ntext=2\nab\nkey=mark\nkey=move-right-character\nkey=cut\nkey=paste\n";
      prints =
          bytes "code=0\nsteps=0\nlines=0\nbell=0\nfirst=1\nlast=1\nrow=1\ncol=0\nline=ab \n"
          ++ (bytes "code=0\nsteps=0\nlines=0\nbell=0\nfirst=0\nlast=0\nrow=1\ncol=0\nline=ab \n"
          ++ (bytes "code=0\nsteps=1\nlines=0\nbell=0\nfirst=0\nlast=0\nrow=1\ncol=1\nline=ab \n"
          ++ (bytes "code=0\nsteps=1\nlines=0\nbell=0\nfirst=1\nlast=1\nrow=1\ncol=0\nline=b  \n"
          ++ bytes "code=0\nsteps=0\nlines=0\nbell=0\nfirst=1\nlast=1\nrow=1\ncol=1\nline=ab \n")));
    }

-- The numbers are those of docs/DECISIONS.md.
abbrev pub samples : List Sample
samples =
    document_sample
    -- A1, A7: earlier blocks are printed; newlines in the text count.
    ∷ on_deck "key=recal\n" "script=7\n"
    -- A2: nothing is read behind a refused opening.
    ∷ prints "rows=0\ncols=4\nstore=4\ntext=0\n\nkeys\n" "code=1\nplace=0\n"
    -- A3: the text is read before the store's size is judged, and that before opening.
    ∷ prints "rows=1\ncols=2\nstore=5000\ntext=3\nab\n" "script=4\n"
    ∷ prints "rows=0\ncols=2\nstore=4097\ntext=2\nab\n" "script=0\n"
    -- A4: five digits are a number, six are not.
    ∷ prints "rows=99999\ncols=99999\nstore=4\ntext=0\n\n" "code=1\nplace=0\n"
    ∷ prints "rows=1\ncols=2\nstore=99999\ntext=0\n\n" "script=0\n"
    ∷ prints "rows=100000\ncols=2\nstore=4\ntext=0\n\n" "script=1\n"
    ∷ prints "rows=1\ncols=100000\nstore=4\ntext=0\n\n" "script=2\n"
    ∷ prints "rows=1\ncols=2\nstore=100000\ntext=0\n\n" "script=3\n"
    -- A5: another byte in the place of the newline behind the text.
    ∷ prints "rows=1\ncols=2\nstore=4\ntext=0\nkey=quote\n" "script=4\n"
    -- A6: a header line without its newline; no input at all.
    ∷ prints "rows=1" "script=1\n"
    ∷ prints "" "script=1\n"
    ∷ prints "rows=1\ncols=2" "script=2\n"
    ∷ prints "rows=1\ncols=2\nstore=4" "script=3\n"
    ∷ prints "rows=1\ncols=2\nstore=4\ntext=0" "script=4\n"
    -- A8: an empty line is no key line, the last one too; the end of the input is none.
    ∷ on_deck "\nkey=quote\n" "script=7\n"
    ∷ on_deck "key=insert-9\n\n" "code=5\nplace=0\nscript=8\n"
    -- A key line begins with `key=`, whatever names a key behind it.
    ∷ on_deck "kez=quote\n" "script=7\n"
    ∷ on_deck "key:quote\n" "script=7\n"
    ∷ on_deck "quote\n" "script=7\n"
    -- The last key line may lack its newline.
    ∷ on_deck "key=insert-200" "code=5\nplace=0\n"
    -- A9: an insert's number.
    ∷ on_deck "key=insert-256\n" "script=7\n"
    ∷ on_deck "key=insert-007\n" "script=7\n"
    -- A10: the two function keys that get KEY have names.
    ∷ on_deck "key=delete-left-line-end\nkey=delete-right-line-begin\n" "code=5\nplace=0\ncode=5\nplace=0\n"
    -- A13: LONG before TEXT, and TEXT's place.
    ∷ prints "rows=1\ncols=2\nstore=2\ntext=3\na\tb\n" "code=2\nplace=0\n"
    ∷ prints "rows=1\ncols=2\nstore=4\ntext=3\na\tb\n" "code=3\nplace=1\n"
    -- A14: nothing but digits, and nothing behind them.
    ∷ prints "rows=+1\ncols=2\nstore=4\ntext=0\n\n" "script=1\n"
    ∷ prints "rows=1\ncols=2\r\nstore=4\ntext=0\n\n" "script=2\n"
    -- M-104, C21: a move over two newlines.
    ∷ prints "rows=1\ncols=1\nstore=4\ntext=3\n\n\na\nkey=move-right-document\n"
    "code=0\nsteps=0\nlines=0\nbell=0\nfirst=1\nlast=1\nrow=1\ncol=0\nline= \ncode=0\nsteps=3\nlines=2\nbell=0\nfirst=1\nlast=1\nrow=1\ncol=1\nline=a\n"
    ∷ block_sample
    -- A15: column W.
    ∷ prints "rows=1\ncols=1\nstore=4\ntext=1\na\nkey=move-right-character\n"
    "code=0\nsteps=0\nlines=0\nbell=0\nfirst=1\nlast=1\nrow=1\ncol=0\nline=a\ncode=0\nsteps=1\nlines=0\nbell=0\nfirst=0\nlast=0\nrow=1\ncol=1\nline=a\n"
    ∷ []

-- The whole table computes to true.
unfoldable pub printed : List Sample → Bool
printed [] = true
printed (s ∷ ss) = same_bytes (output s.script) s.prints && printed ss
