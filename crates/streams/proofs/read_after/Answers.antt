-- The tries that failed took nothing, and the bytes of the one that did not stand behind the kept ones.
use Rattle.std.proofs.Common.{◌≡◌, ◌+◌, ℕ, List, take, drop, None, Some, Option, sym, ap, ◌∙◌, subst}
use Rattle.std.proofs.lemmas.List.{drop-take}
use Rattle.std.specs.Io.KnownBytes.{Consumes, Keeps}
use Rattle.streams.proofs.read_after.Goals as goal

consumes-after : (a b c : Option (List ℕ)) (bs : List ℕ) → Keeps a b → Consumes b c bs → Consumes a c bs
consumes-after None b c bs k t = tt
consumes-after (Some x) None c bs k t = absurd k
consumes-after (Some x) (Some y) None bs k t = absurd t
consumes-after (Some x) (Some y) (Some z) bs k t = sym k ∙ t

-- what came behind the kept bytes, by where it ends
came : (buf : List ℕ) (have got to : ℕ) → to ≡ have + got → take got (drop have buf) ≡ drop have (take to buf)
came buf have got to e = sym (drop-take have got buf) ∙ ap (λ n. drop have (take n buf)) (sym e)

pub returns-in-Ok-clause-taken : goal.returns-in-Ok-clause-taken
returns-in-Ok-clause-taken g c =
    let buf = c.read_once.new.buf in
    let start = g.R.Read.remaining c.args.input.now in
    let left = g.R.Read.remaining c.read_once.new.input in
    let o = c.in-Ok.ensures in
    subst (Consumes start left)
    (came buf c.args.have c.in-Ok.got c.end_of.result (c.end_of.ensures.all o.within))
    (consumes-after start _ left _ c.loop.invariant.1 o.taken)
