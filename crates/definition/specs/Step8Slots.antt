-- Step 8: 'A slot reached twice is combined'. Definitions only.
use Rattle.std.specs.Prelude.{ℕ, ◌&&◌, List, eqb}
use Rattle.tangent.specs.declared.Reading.{Reading}
use Rattle.tangent.specs.declared.Reading.TheVariants.{Absent}
use Rattle.tangent.specs.Space.{reached}
use Rattle.lists.specs.Lists.{keep, run}
use Rattle.definition.specs.Step7Sums.{Brought}

-- a slot reached once more, by what is brought
unfoldable pub put : Reading → Brought → Reading
put r b = reached r b.value b.orientation

-- the reading of slot number i of face f: absent until something is brought to it, then reached by one after the other; step 9 comes after
unfoldable pub reading : List Brought → ℕ → ℕ → Reading
reading bs f i = run put Absent (keep (λ b. eqb b.face f && eqb b.slot i) bs)
