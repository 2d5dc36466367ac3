-- `cursor::cursor` meets its contract: newlines and columns of the texts left of the cursor are those of the virtual text.
use native.Mathlib.Omega.{arith}
use Rattle.gap.proofs.Laws.Lines.{front-newlines}
use Rattle.window.proofs.Laws.Spots.{main-spot, quoted-spot}
use Rattle.window.proofs.cursor.cursor.Goals as goal

pub overflow_add-result : goal.overflow_add-result
overflow_add-result c = omega (arith, c.requires.above_value, front-newlines c.args.n.main.l c.args.text.now)

pub overflow_add-result-in-Quoted : goal.overflow_add-result-in-Quoted
overflow_add-result-in-Quoted c =
    let above = front-newlines c.args.n.main.l c.args.text.now in
    let within = front-newlines c.args.n.quoted.l c.args.side.now in
    omega (arith, c.requires.above_value, c.count_newlines.ensures)

pub overflow_add-result-in-Quoted-2 : goal.overflow_add-result-in-Quoted-2
overflow_add-result-in-Quoted-2 c =
    let above = front-newlines c.args.n.main.l c.args.text.now in
    let within = front-newlines c.args.n.quoted.l c.args.side.now in
    omega (arith, c.requires.above_value, c.count_newlines.ensures)

pub returns-in-Main : goal.returns-in-Main
returns-in-Main c =
    λ Q texts.
    main-spot Q c.args.n c.args.text.now c.args.side.now c.in-Main.is c.requires.above_value c.since_newline.ensures

pub returns-in-Quoted : goal.returns-in-Quoted
returns-in-Quoted c =
    λ Q texts.
    quoted-spot Q c.args.n c.args.text.now c.args.side.now (omega (arith, texts.quotation))
    c.in-Quoted.is c.requires.above_value c.count_newlines.ensures c.since_newline-in-Quoted.ensures
