-- The house cases of document 01 that are marked P, as rows of one table (case 1 with the read that document 02, 1 changes, case 2 with the
-- clients of document 02, 12), two rows more for mistakes of its list that these eight let pass, and rows for document 02: one for 1, two for 2, one
-- for 3, two for 9, two for 12. Then case 5 with a look after each step, case 9, and rows for sentences of document 01 that no case shows: the commit queue (two),
-- an Abandon at stage 11, set-ups that are refused, lines that are no form. Each row has the lines that are put in, each with the line that is to come
-- out. proofs/House.antt proves the whole table.
-- Assumes nothing.
use Rattle.std.specs.Prelude.{ℕ, zero, suc, ◌+◌, ◌-◌}
use Prim.Native.String.{String}
use mathlib.Core.List.{List, [], ◌∷◌, ◌++◌, map, flatten}
use Rattle.spec.specs.Text.{str, decimal_of}

pub record Exchange : Type 0 where
  pub put : List ℕ
  pub got : List ℕ

infix 70 ◌⇒◌
abbrev pub ◌⇒◌ : String → String → Exchange
i ⇒ o = record { put = str i; got = str o }

pub record Case : Type 0 where
  pub name : String
  pub exchanges : List Exchange

-- n advances of client k that answer the stages from g on
abbrev pub stages : ℕ → ℕ → ℕ → List Exchange
stages k g zero = []
stages k g (suc n) =
    record {
      put = str "(advance " ++ decimal_of k ++ str ")";
      got = str "(advance " ++ decimal_of k ++ str " (stage " ++ decimal_of g ++ str "))";
    }
    ∷ stages k (g + 1) n

-- n writes of client k to the cells from x on, which it has not written; f rows are free before them
abbrev pub new_cells : ℕ → ℕ → ℕ → ℕ → List Exchange
new_cells k x f zero = []
new_cells k x f (suc n) =
    record {
      put = str "(write " ++ decimal_of k ++ str " " ++ decimal_of x ++ str " 000102030405060708090a0b0c0d0e0f)";
      got = str "(write " ++ decimal_of k ++ str " " ++ decimal_of x ++ str " (free " ++ decimal_of (f - 1) ++ str "))";
    }
    ∷ new_cells k (x + 1) (f - 1) n

-- client 1's look in case 5, and a read of its own value
abbrev pub still_waits : List Exchange
still_waits =
    "(advance 1)" ⇒ "(advance 1 (waiting 1))"
    ∷ "(read 1 7)" ⇒ "(read 1 7 (value ffeeddccbbaa99887766554433221100))"
    ∷ []

-- the whole input of a case, and the whole output
abbrev pub input_of : Case → List ℕ
input_of c = flatten (map (λ (e : Exchange). e.put ++ (10 ∷ [])) c.exchanges)

abbrev pub output_of : Case → List ℕ
output_of c = flatten (map (λ (e : Exchange). e.got ++ (10 ∷ [])) c.exchanges)

abbrev pub cases : List Case
cases =
    record {
      name = "1: the run";
      exchanges =
          ("(set-up 2 1 0)" ⇒ "(set-up (free 2))"
          ∷ "(begin 0)" ⇒ "(begin 0 (number 1) (snapshot 0))"
          ∷ "(write 0 7 000102030405060708090a0b0c0d0e0f)" ⇒ "(write 0 7 (free 1))"
          ∷ "(advance 0)" ⇒ "(advance 0 (stage 1))"
          ∷ "(read 0 7)" ⇒ "(read 0 7 (value 000102030405060708090a0b0c0d0e0f))"
          ∷ "(abandon 0)" ⇒ "(abandon 0 (free 2))"
          ∷ "(free)" ⇒ "(free (free 2))"
          ∷ []);
    }
    ∷ record {
      name = "2: last client and last cell";
      exchanges =
          ("(set-up 2 1 0)" ⇒ "(set-up (free 2))"
          ∷ "(begin 63)" ⇒ "(begin 63 (number 1) (snapshot 0))"
          ∷ "(begin 64)" ⇒ "(begin 64 (refused 3))"
          ∷ "(write 63 1023 000102030405060708090a0b0c0d0e0f)" ⇒ "(write 63 1023 (free 1))"
          ∷ "(write 63 1024 000102030405060708090a0b0c0d0e0f)" ⇒ "(write 63 1024 (refused 4))"
          ∷ []);
    }
    ∷ record {
      name = "3: limit 1, no row free";
      exchanges =
          ("(set-up 1 1 1)" ⇒ "(set-up (free 1))"
          ∷ "(begin 0)" ⇒ "(begin 0 (number 1) (snapshot 0))"
          ∷ "(write 0 5 000102030405060708090a0b0c0d0e0f)" ⇒ "(write 0 5 (free 0))"
          ∷ "(write 0 5 ffeeddccbbaa99887766554433221100)" ⇒ "(write 0 5 (free 0))"
          ∷ "(read 0 5)" ⇒ "(read 0 5 (value ffeeddccbbaa99887766554433221100))"
          ∷ "(write 0 6 000102030405060708090a0b0c0d0e0f)" ⇒ "(write 0 6 (refused 9))"
          ∷ []);
    }
    ∷ record {
      name = "4: a listed row without a number";
      exchanges =
          ("(set-up 4 1 0)" ⇒ "(set-up (free 4))"
          ∷ "(begin 0)" ⇒ "(begin 0 (number 1) (snapshot 0))"
          ∷ "(begin 1)" ⇒ "(begin 1 (number 2) (snapshot 0))"
          ∷ "(write 0 7 000102030405060708090a0b0c0d0e0f)" ⇒ "(write 0 7 (free 3))"
          ∷ "(write 1 7 ffeeddccbbaa99887766554433221100)" ⇒ "(write 1 7 (free 2))"
          ∷ "(advance 1)" ⇒ "(advance 1 (stage 1))"
          ∷ [])
          ++ stages 0 1 4
          ++ ("(advance 0)" ⇒ "(advance 0 (waiting 1))"
          ∷ "(advance 1)" ⇒ "(advance 1 (stage 2))"
          ∷ "(advance 0)" ⇒ "(advance 0 (waiting 1))"
          ∷ "(advance 1)" ⇒ "(advance 1 (stage 3))"
          ∷ "(advance 0)" ⇒ "(advance 0 (stage 5))"
          ∷ []);
    }
    ∷ record {
      name = "5: the later requester waits, then conflicts";
      exchanges =
          ("(set-up 4 1 0)" ⇒ "(set-up (free 4))"
          ∷ "(begin 0)" ⇒ "(begin 0 (number 1) (snapshot 0))"
          ∷ "(begin 1)" ⇒ "(begin 1 (number 2) (snapshot 0))"
          ∷ "(write 0 7 000102030405060708090a0b0c0d0e0f)" ⇒ "(write 0 7 (free 3))"
          ∷ "(write 1 7 ffeeddccbbaa99887766554433221100)" ⇒ "(write 1 7 (free 2))"
          ∷ [])
          ++ stages 0 1 3
          ++ stages 1 1 4
          ++ ("(advance 1)" ⇒ "(advance 1 (waiting 1))"
          ∷ [])
          ++ stages 0 4 10
          ++ ("(advance 1)" ⇒ "(advance 1 (waiting 1))"
          ∷ "(advance 0)" ⇒ "(advance 0 (done 1))"
          ∷ "(advance 1)" ⇒ "(advance 1 (stage 5))"
          ∷ "(advance 1)" ⇒ "(advance 1 (conflict 1))"
          ∷ "(free)" ⇒ "(free (free 3))"
          ∷ []);
    }
    ∷ record {
      name = "6: a commit number taken and abandoned";
      exchanges =
          ("(set-up 4 1 0)" ⇒ "(set-up (free 4))"
          ∷ "(begin 0)" ⇒ "(begin 0 (number 1) (snapshot 0))"
          ∷ "(write 0 7 000102030405060708090a0b0c0d0e0f)" ⇒ "(write 0 7 (free 3))"
          ∷ [])
          ++ stages 0 1 8
          ++ ("(abandon 0)" ⇒ "(abandon 0 (free 4))"
          ∷ "(begin 1)" ⇒ "(begin 1 (number 2) (snapshot 0))"
          ∷ "(write 1 7 000102030405060708090a0b0c0d0e0f)" ⇒ "(write 1 7 (free 3))"
          ∷ [])
          ++ stages 1 1 13
          ++ ("(advance 1)" ⇒ "(advance 1 (done 2))"
          ∷ "(begin 2)" ⇒ "(begin 2 (number 3) (snapshot 2))"
          ∷ []);
    }
    ∷ record {
      name = "7: three commits of one cell, trimmed";
      exchanges =
          ("(set-up 4 1 0)" ⇒ "(set-up (free 4))"
          ∷ "(begin 0)" ⇒ "(begin 0 (number 1) (snapshot 0))"
          ∷ "(write 0 7 000102030405060708090a0b0c0d0e0f)" ⇒ "(write 0 7 (free 3))"
          ∷ [])
          ++ stages 0 1 13
          ++ ("(advance 0)" ⇒ "(advance 0 (done 1))"
          ∷ "(begin 0)" ⇒ "(begin 0 (number 2) (snapshot 1))"
          ∷ "(write 0 7 000102030405060708090a0b0c0d0e0f)" ⇒ "(write 0 7 (free 2))"
          ∷ [])
          ++ stages 0 1 13
          ++ ("(advance 0)" ⇒ "(advance 0 (done 2))"
          ∷ "(begin 0)" ⇒ "(begin 0 (number 3) (snapshot 2))"
          ∷ "(write 0 7 000102030405060708090a0b0c0d0e0f)" ⇒ "(write 0 7 (free 1))"
          ∷ [])
          ++ stages 0 1 13
          ++ ("(advance 0)" ⇒ "(advance 0 (done 3))"
          ∷ "(trim)" ⇒ "(trim (dropped 2))"
          ∷ "(trim)" ⇒ "(trim (dropped 0))"
          ∷ "(free)" ⇒ "(free (free 3))"
          ∷ []);
    }
    ∷ record {
      name = "8: crossed reads and writes both commit";
      exchanges =
          ("(set-up 4 1 0)" ⇒ "(set-up (free 4))"
          ∷ "(begin 0)" ⇒ "(begin 0 (number 1) (snapshot 0))"
          ∷ "(begin 1)" ⇒ "(begin 1 (number 2) (snapshot 0))"
          ∷ "(read 0 1)" ⇒ "(read 0 1 (unwritten))"
          ∷ "(write 0 2 000102030405060708090a0b0c0d0e0f)" ⇒ "(write 0 2 (free 3))"
          ∷ "(read 1 2)" ⇒ "(read 1 2 (unwritten))"
          ∷ "(write 1 1 ffeeddccbbaa99887766554433221100)" ⇒ "(write 1 1 (free 2))"
          ∷ [])
          ++ stages 0 1 7
          ++ stages 1 1 10
          ++ ("(advance 1)" ⇒ "(advance 1 (waiting 1))"
          ∷ [])
          ++ stages 0 8 2
          ++ stages 1 11 3
          ++ ("(advance 1)" ⇒ "(advance 1 (done 1))"
          ∷ [])
          ++ stages 0 10 4
          ++ ("(advance 0)" ⇒ "(advance 0 (done 2))"
          ∷ "(begin 2)" ⇒ "(begin 2 (number 3) (snapshot 2))"
          ∷ "(read 2 1)" ⇒ "(read 2 1 (value ffeeddccbbaa99887766554433221100))"
          ∷ "(read 2 2)" ⇒ "(read 2 2 (value 000102030405060708090a0b0c0d0e0f))"
          ∷ []);
    }
    ∷ record {
      name = "a blocker that has begun again blocks no longer";
      exchanges =
          ("(set-up 4 1 0)" ⇒ "(set-up (free 4))"
          ∷ "(begin 0)" ⇒ "(begin 0 (number 1) (snapshot 0))"
          ∷ "(begin 1)" ⇒ "(begin 1 (number 2) (snapshot 0))"
          ∷ "(write 0 7 000102030405060708090a0b0c0d0e0f)" ⇒ "(write 0 7 (free 3))"
          ∷ "(write 1 7 ffeeddccbbaa99887766554433221100)" ⇒ "(write 1 7 (free 2))"
          ∷ "(advance 1)" ⇒ "(advance 1 (stage 1))"
          ∷ [])
          ++ stages 0 1 4
          ++ ("(advance 0)" ⇒ "(advance 0 (waiting 1))"
          ∷ "(abandon 1)" ⇒ "(abandon 1 (free 3))"
          ∷ "(begin 1)" ⇒ "(begin 1 (number 3) (snapshot 0))"
          ∷ "(write 1 7 ffeeddccbbaa99887766554433221100)" ⇒ "(write 1 7 (free 2))"
          ∷ "(advance 1)" ⇒ "(advance 1 (stage 1))"
          ∷ "(advance 0)" ⇒ "(advance 0 (stage 5))"
          ∷ []);
    }
    ∷ record {
      name = "a trim while an older snapshot is open";
      exchanges =
          ("(set-up 4 1 0)" ⇒ "(set-up (free 4))"
          ∷ "(begin 0)" ⇒ "(begin 0 (number 1) (snapshot 0))"
          ∷ "(write 0 7 000102030405060708090a0b0c0d0e0f)" ⇒ "(write 0 7 (free 3))"
          ∷ [])
          ++ stages 0 1 13
          ++ ("(advance 0)" ⇒ "(advance 0 (done 1))"
          ∷ "(begin 1)" ⇒ "(begin 1 (number 2) (snapshot 1))"
          ∷ "(begin 0)" ⇒ "(begin 0 (number 3) (snapshot 1))"
          ∷ "(write 0 7 ffeeddccbbaa99887766554433221100)" ⇒ "(write 0 7 (free 2))"
          ∷ [])
          ++ stages 0 1 13
          ++ ("(advance 0)" ⇒ "(advance 0 (done 2))"
          ∷ "(trim)" ⇒ "(trim (dropped 0))"
          ∷ "(read 1 7)" ⇒ "(read 1 7 (value 000102030405060708090a0b0c0d0e0f))"
          ∷ "(abandon 1)" ⇒ "(abandon 1 (free 2))"
          ∷ "(trim)" ⇒ "(trim (dropped 1))"
          ∷ []);
    }
    ∷ record {
      name = "reads while a commit waits, at stages 4 and 10";
      exchanges =
          -- cell 5 is committed under 1; client 0 begins, writes cell 7, and enters the queue behind client 2, who wrote it too
          ("(set-up 8 1 0)" ⇒ "(set-up (free 8))"
          ∷ "(begin 1)" ⇒ "(begin 1 (number 1) (snapshot 0))"
          ∷ "(write 1 5 000102030405060708090a0b0c0d0e0f)" ⇒ "(write 1 5 (free 7))"
          ∷ [])
          ++ stages 1 1 13
          ++ ("(advance 1)" ⇒ "(advance 1 (done 1))"
          ∷ "(begin 0)" ⇒ "(begin 0 (number 2) (snapshot 1))"
          ∷ "(write 0 7 ffeeddccbbaa99887766554433221100)" ⇒ "(write 0 7 (free 6))"
          ∷ "(begin 2)" ⇒ "(begin 2 (number 3) (snapshot 1))"
          ∷ "(write 2 7 000102030405060708090a0b0c0d0e0f)" ⇒ "(write 2 7 (free 5))"
          ∷ "(advance 2)" ⇒ "(advance 2 (stage 1))"
          ∷ "(advance 0)" ⇒ "(advance 0 (stage 1))"
          ∷ "(read 0 7)" ⇒ "(read 0 7 (value ffeeddccbbaa99887766554433221100))"
          ∷ "(write 0 7 000102030405060708090a0b0c0d0e0f)" ⇒ "(write 0 7 (refused 7))"
          ∷ [])
          ++ stages 0 2 3
          ++ ("(advance 0)" ⇒ "(advance 0 (waiting 1))"
          -- cell 5 is committed under 2 while client 0 waits at stage 4
          ∷ "(begin 1)" ⇒ "(begin 1 (number 4) (snapshot 1))"
          ∷ "(write 1 5 ffeeddccbbaa99887766554433221100)" ⇒ "(write 1 5 (free 4))"
          ∷ [])
          ++ stages 1 1 13
          ++ ("(advance 1)" ⇒ "(advance 1 (done 2))"
          ∷ "(advance 0)" ⇒ "(advance 0 (waiting 1))"
          ∷ "(read 0 7)" ⇒ "(read 0 7 (value ffeeddccbbaa99887766554433221100))"
          ∷ "(read 0 5)" ⇒ "(read 0 5 (value 000102030405060708090a0b0c0d0e0f))"
          ∷ "(read 0 6)" ⇒ "(read 0 6 (unwritten))"
          ∷ "(write 0 5 000102030405060708090a0b0c0d0e0f)" ⇒ "(write 0 5 (refused 7))"
          -- client 3 is in the commit queue without a number: client 0 waits for it at stage 10
          ∷ "(begin 3)" ⇒ "(begin 3 (number 5) (snapshot 2))"
          ∷ "(write 3 9 000102030405060708090a0b0c0d0e0f)" ⇒ "(write 3 9 (free 3))"
          ∷ [])
          ++ stages 3 1 7
          ++ stages 2 2 2
          ++ stages 0 5 6
          ++ ("(advance 0)" ⇒ "(advance 0 (waiting 1))"
          ∷ "(read 0 7)" ⇒ "(read 0 7 (value ffeeddccbbaa99887766554433221100))"
          ∷ "(read 0 5)" ⇒ "(read 0 5 (value 000102030405060708090a0b0c0d0e0f))"
          ∷ "(write 0 7 000102030405060708090a0b0c0d0e0f)" ⇒ "(write 0 7 (refused 7))"
          ∷ [])
          ++ stages 3 8 2
          ++ stages 0 11 1
          ++ ("(read 0 7)" ⇒ "(read 0 7 (value ffeeddccbbaa99887766554433221100))"
          ∷ "(read 0 5)" ⇒ "(read 0 5 (value 000102030405060708090a0b0c0d0e0f))"
          ∷ [])
          ++ stages 0 12 1
          ++ ("(read 0 7)" ⇒ "(read 0 7 (refused 7))"
          ∷ "(read 0 1024)" ⇒ "(read 0 1024 (refused 4))"
          ∷ "(write 0 7 000102030405060708090a0b0c0d0e0f)" ⇒ "(write 0 7 (refused 7))"
          ∷ [])
          ++ stages 0 13 1
          ++ ("(read 0 5)" ⇒ "(read 0 5 (refused 7))"
          ∷ "(advance 0)" ⇒ "(advance 0 (done 3))"
          ∷ "(begin 0)" ⇒ "(begin 0 (number 6) (snapshot 3))"
          ∷ "(read 0 5)" ⇒ "(read 0 5 (value ffeeddccbbaa99887766554433221100))"
          ∷ []);
    }
    ∷ record {
      name = "an enquiry in a new store";
      exchanges =
          ("(set-up 1 1 0)" ⇒ "(set-up (free 1))"
          ∷ "(begin 0)" ⇒ "(begin 0 (number 1) (snapshot 0))"
          ∷ "(read 0 7)" ⇒ "(read 0 7 (unwritten))"
          ∷ "(advance 0)" ⇒ "(advance 0 (done 0))"
          -- it is closed, and the client can begin again at once
          ∷ "(advance 0)" ⇒ "(advance 0 (refused 6))"
          ∷ "(read 0 7)" ⇒ "(read 0 7 (refused 6))"
          ∷ "(begin 0)" ⇒ "(begin 0 (number 2) (snapshot 0))"
          -- a refused write has written nothing
          ∷ "(begin 1)" ⇒ "(begin 1 (number 3) (snapshot 0))"
          ∷ "(write 1 7 000102030405060708090a0b0c0d0e0f)" ⇒ "(write 1 7 (free 0))"
          ∷ "(write 0 7 000102030405060708090a0b0c0d0e0f)" ⇒ "(write 0 7 (refused 10))"
          ∷ "(advance 0)" ⇒ "(advance 0 (done 0))"
          ∷ []);
    }
    ∷ record {
      name = "enquiries while a commit is under way";
      exchanges =
          -- cell 7 is committed under 1; client 1 begins an enquiry, client 2 a change of the cell that it reads
          ("(set-up 4 1 0)" ⇒ "(set-up (free 4))"
          ∷ "(begin 0)" ⇒ "(begin 0 (number 1) (snapshot 0))"
          ∷ "(write 0 7 000102030405060708090a0b0c0d0e0f)" ⇒ "(write 0 7 (free 3))"
          ∷ [])
          ++ stages 0 1 13
          ++ ("(advance 0)" ⇒ "(advance 0 (done 1))"
          ∷ "(begin 1)" ⇒ "(begin 1 (number 2) (snapshot 1))"
          ∷ "(begin 2)" ⇒ "(begin 2 (number 3) (snapshot 1))"
          ∷ "(write 2 7 ffeeddccbbaa99887766554433221100)" ⇒ "(write 2 7 (free 2))"
          ∷ [])
          -- client 2 makes its list and looks: nobody waits for an enquiry
          ++ stages 2 1 8
          ++ ("(read 1 7)" ⇒ "(read 1 7 (value 000102030405060708090a0b0c0d0e0f))"
          -- it waits for nobody either, and client 1 can begin again at once
          ∷ "(advance 1)" ⇒ "(advance 1 (done 1))"
          ∷ "(begin 1)" ⇒ "(begin 1 (number 4) (snapshot 1))"
          ∷ [])
          ++ stages 2 9 5
          ++ ("(advance 2)" ⇒ "(advance 2 (done 2))"
          -- the last commit is 2 now, but not that of the snapshot
          ∷ "(read 1 7)" ⇒ "(read 1 7 (value 000102030405060708090a0b0c0d0e0f))"
          ∷ "(advance 1)" ⇒ "(advance 1 (done 1))"
          ∷ "(begin 1)" ⇒ "(begin 1 (number 5) (snapshot 2))"
          ∷ "(advance 1)" ⇒ "(advance 1 (done 2))"
          -- no commit number was taken: the next commit has the next one
          ∷ "(begin 0)" ⇒ "(begin 0 (number 6) (snapshot 2))"
          ∷ "(write 0 8 000102030405060708090a0b0c0d0e0f)" ⇒ "(write 0 8 (free 1))"
          ∷ [])
          ++ stages 0 1 13
          ++ ("(advance 0)" ⇒ "(advance 0 (done 3))"
          ∷ []);
    }
    ∷ record {
      name = "reads by the version table, at three snapshots";
      exchanges =
          ("(set-up 8 1 0)" ⇒ "(set-up (free 8))"
          ∷ "(begin 0)" ⇒ "(begin 0 (number 1) (snapshot 0))"
          ∷ "(write 0 7 000102030405060708090a0b0c0d0e0f)" ⇒ "(write 0 7 (free 7))"
          ∷ [])
          ++ stages 0 1 13
          ++ ("(advance 0)" ⇒ "(advance 0 (done 1))"
          -- the entry of cell 7 becomes 1, and a look from it on finds that commit again
          ∷ "(begin 1)" ⇒ "(begin 1 (number 2) (snapshot 1))"
          ∷ "(read 1 7)" ⇒ "(read 1 7 (value 000102030405060708090a0b0c0d0e0f))"
          ∷ "(read 1 7)" ⇒ "(read 1 7 (value 000102030405060708090a0b0c0d0e0f))"
          -- a reader at 2 leaves it at 1: commit 2 is one of cell 8
          ∷ "(begin 0)" ⇒ "(begin 0 (number 3) (snapshot 1))"
          ∷ "(write 0 8 0f0e0d0c0b0a09080706050403020100)" ⇒ "(write 0 8 (free 6))"
          ∷ [])
          ++ stages 0 1 13
          ++ ("(advance 0)" ⇒ "(advance 0 (done 2))"
          ∷ "(begin 2)" ⇒ "(begin 2 (number 4) (snapshot 2))"
          ∷ "(read 2 9)" ⇒ "(read 2 9 (unwritten))"
          ∷ "(read 2 7)" ⇒ "(read 2 7 (value 000102030405060708090a0b0c0d0e0f))"
          ∷ "(read 2 7)" ⇒ "(read 2 7 (value 000102030405060708090a0b0c0d0e0f))"
          -- commit 3 is one of cell 7, and its reader makes the entry 3: those at 1 and 2 look at all up to their snapshots
          ∷ "(begin 0)" ⇒ "(begin 0 (number 5) (snapshot 2))"
          ∷ "(write 0 7 ffeeddccbbaa99887766554433221100)" ⇒ "(write 0 7 (free 5))"
          ∷ [])
          ++ stages 0 1 13
          ++ ("(advance 0)" ⇒ "(advance 0 (done 3))"
          ∷ "(begin 3)" ⇒ "(begin 3 (number 6) (snapshot 3))"
          ∷ "(read 3 7)" ⇒ "(read 3 7 (value ffeeddccbbaa99887766554433221100))"
          ∷ "(read 1 7)" ⇒ "(read 1 7 (value 000102030405060708090a0b0c0d0e0f))"
          ∷ "(read 2 7)" ⇒ "(read 2 7 (value 000102030405060708090a0b0c0d0e0f))"
          ∷ "(read 3 7)" ⇒ "(read 3 7 (value ffeeddccbbaa99887766554433221100))"
          -- a read of an own write leaves the entry of cell 8 at 0, that of a reader before makes it 2
          ∷ "(write 3 8 ffeeddccbbaa99887766554433221100)" ⇒ "(write 3 8 (free 4))"
          ∷ "(read 3 8)" ⇒ "(read 3 8 (value ffeeddccbbaa99887766554433221100))"
          ∷ "(read 1 8)" ⇒ "(read 1 8 (unwritten))"
          ∷ "(read 2 8)" ⇒ "(read 2 8 (value 0f0e0d0c0b0a09080706050403020100))"
          ∷ "(read 1 8)" ⇒ "(read 1 8 (unwritten))"
          ∷ "(abandon 3)" ⇒ "(abandon 3 (free 5))"
          ∷ "(abandon 1)" ⇒ "(abandon 1 (free 5))"
          -- a trim while 2 reads, and one after it
          ∷ "(trim)" ⇒ "(trim (dropped 0))"
          ∷ "(read 2 7)" ⇒ "(read 2 7 (value 000102030405060708090a0b0c0d0e0f))"
          ∷ "(abandon 2)" ⇒ "(abandon 2 (free 5))"
          ∷ "(trim)" ⇒ "(trim (dropped 1))"
          ∷ "(begin 4)" ⇒ "(begin 4 (number 7) (snapshot 3))"
          ∷ "(read 4 7)" ⇒ "(read 4 7 (value ffeeddccbbaa99887766554433221100))"
          ∷ "(read 4 8)" ⇒ "(read 4 8 (value 0f0e0d0c0b0a09080706050403020100))"
          -- a new set-up begins without entries
          ∷ "(set-up 8 1 0)" ⇒ "(set-up (free 8))"
          ∷ "(begin 4)" ⇒ "(begin 4 (number 1) (snapshot 0))"
          ∷ "(read 4 7)" ⇒ "(read 4 7 (unwritten))"
          ∷ "(write 4 7 000102030405060708090a0b0c0d0e0f)" ⇒ "(write 4 7 (free 7))"
          ∷ [])
          ++ stages 4 1 13
          ++ ("(advance 4)" ⇒ "(advance 4 (done 1))"
          ∷ "(begin 4)" ⇒ "(begin 4 (number 2) (snapshot 1))"
          ∷ "(read 4 7)" ⇒ "(read 4 7 (value 000102030405060708090a0b0c0d0e0f))"
          ∷ []);
    }
    ∷ record {
      name = "limit 0: eight cells";
      exchanges =
          ("(set-up 12 1 0)" ⇒ "(set-up (free 12))"
          ∷ "(begin 0)" ⇒ "(begin 0 (number 1) (snapshot 0))"
          ∷ [])
          ++ new_cells 0 0 12 8
          ++ ("(write 0 8 000102030405060708090a0b0c0d0e0f)" ⇒ "(write 0 8 (refused 9))"
          -- the eighth is overwritten
          ∷ "(write 0 7 ffeeddccbbaa99887766554433221100)" ⇒ "(write 0 7 (free 4))"
          ∷ "(read 0 7)" ⇒ "(read 0 7 (value ffeeddccbbaa99887766554433221100))"
          ∷ "(read 0 8)" ⇒ "(read 0 8 (unwritten))"
          -- the limit is one for each transaction: another client writes the ninth cell, and client 0, begun again, has eight anew
          ∷ "(begin 1)" ⇒ "(begin 1 (number 2) (snapshot 0))"
          ∷ "(write 1 8 000102030405060708090a0b0c0d0e0f)" ⇒ "(write 1 8 (free 3))"
          ∷ "(abandon 0)" ⇒ "(abandon 0 (free 11))"
          ∷ "(begin 0)" ⇒ "(begin 0 (number 3) (snapshot 0))"
          ∷ [])
          ++ new_cells 0 100 11 8
          ++ ("(write 0 8 000102030405060708090a0b0c0d0e0f)" ⇒ "(write 0 8 (refused 9))"
          ∷ []);
    }
    ∷ record {
      name = "limit 16, by name: sixteen cells";
      exchanges =
          ("(set-up 17 1 16)" ⇒ "(set-up (free 17))"
          ∷ "(begin 0)" ⇒ "(begin 0 (number 1) (snapshot 0))"
          ∷ [])
          ++ new_cells 0 0 17 16
          ++ ("(write 0 16 000102030405060708090a0b0c0d0e0f)" ⇒ "(write 0 16 (refused 9))"
          ∷ "(write 0 15 ffeeddccbbaa99887766554433221100)" ⇒ "(write 0 15 (free 1))"
          ∷ []);
    }
    ∷ record {
      name = "clients 40 and 63 wait for one another, in both queues";
      exchanges =
          -- both write cell 7: client 40 has the smaller number, and still waits for client 63, which has none; then client 63 waits for it
          ("(set-up 4 1 0)" ⇒ "(set-up (free 4))"
          ∷ "(begin 40)" ⇒ "(begin 40 (number 1) (snapshot 0))"
          ∷ "(begin 63)" ⇒ "(begin 63 (number 2) (snapshot 0))"
          ∷ "(write 40 7 000102030405060708090a0b0c0d0e0f)" ⇒ "(write 40 7 (free 3))"
          ∷ "(write 63 7 ffeeddccbbaa99887766554433221100)" ⇒ "(write 63 7 (free 2))"
          ∷ "(advance 63)" ⇒ "(advance 63 (stage 1))"
          ∷ [])
          ++ stages 40 1 4
          ++ ("(advance 40)" ⇒ "(advance 40 (waiting 1))"
          ∷ [])
          ++ stages 63 2 3
          ++ ("(advance 63)" ⇒ "(advance 63 (waiting 1))"
          ∷ [])
          ++ stages 40 5 9
          ++ ("(advance 63)" ⇒ "(advance 63 (waiting 1))"
          ∷ "(advance 40)" ⇒ "(advance 40 (done 1))"
          ∷ "(advance 63)" ⇒ "(advance 63 (stage 5))"
          ∷ "(advance 63)" ⇒ "(advance 63 (conflict 1))"
          -- the same in the commit queue, with a cell each
          ∷ "(begin 40)" ⇒ "(begin 40 (number 3) (snapshot 1))"
          ∷ "(begin 63)" ⇒ "(begin 63 (number 4) (snapshot 1))"
          ∷ "(write 40 8 000102030405060708090a0b0c0d0e0f)" ⇒ "(write 40 8 (free 2))"
          ∷ "(write 63 9 ffeeddccbbaa99887766554433221100)" ⇒ "(write 63 9 (free 1))"
          ∷ [])
          ++ stages 63 1 7
          ++ stages 40 1 10
          ++ ("(advance 40)" ⇒ "(advance 40 (waiting 1))"
          ∷ [])
          ++ stages 63 8 3
          ++ ("(advance 63)" ⇒ "(advance 63 (waiting 1))"
          ∷ [])
          ++ stages 40 11 2
          ++ ("(advance 63)" ⇒ "(advance 63 (waiting 1))"
          ∷ [])
          ++ stages 40 13 1
          ++ stages 63 11 3
          ++ ("(advance 63)" ⇒ "(advance 63 (done 3))"
          ∷ "(advance 40)" ⇒ "(advance 40 (done 2))"
          ∷ []);
    }
    ∷ record {
      name = "client 63 reads at the oldest snapshot, through a trim; there is no client 64";
      exchanges =
          ("(set-up 4 1 0)" ⇒ "(set-up (free 4))"
          ∷ "(begin 0)" ⇒ "(begin 0 (number 1) (snapshot 0))"
          ∷ "(write 0 7 000102030405060708090a0b0c0d0e0f)" ⇒ "(write 0 7 (free 3))"
          ∷ [])
          ++ stages 0 1 13
          ++ ("(advance 0)" ⇒ "(advance 0 (done 1))"
          ∷ "(begin 63)" ⇒ "(begin 63 (number 2) (snapshot 1))"
          ∷ "(begin 32)" ⇒ "(begin 32 (number 3) (snapshot 1))"
          ∷ "(write 32 7 ffeeddccbbaa99887766554433221100)" ⇒ "(write 32 7 (free 2))"
          ∷ [])
          ++ stages 32 1 13
          ++ ("(advance 32)" ⇒ "(advance 32 (done 2))"
          ∷ "(begin 0)" ⇒ "(begin 0 (number 4) (snapshot 2))"
          ∷ "(begin 62)" ⇒ "(begin 62 (number 5) (snapshot 2))"
          ∷ "(trim)" ⇒ "(trim (dropped 0))"
          ∷ "(read 63 7)" ⇒ "(read 63 7 (value 000102030405060708090a0b0c0d0e0f))"
          ∷ "(read 62 7)" ⇒ "(read 62 7 (value ffeeddccbbaa99887766554433221100))"
          ∷ "(read 64 7)" ⇒ "(read 64 7 (refused 3))"
          ∷ "(write 64 7 000102030405060708090a0b0c0d0e0f)" ⇒ "(write 64 7 (refused 3))"
          ∷ "(advance 64)" ⇒ "(advance 64 (refused 3))"
          ∷ "(abandon 64)" ⇒ "(abandon 64 (refused 3))"
          ∷ "(abandon 63)" ⇒ "(abandon 63 (free 2))"
          ∷ "(trim)" ⇒ "(trim (dropped 1))"
          ∷ []);
    }
    ∷ record {
      name = "5 again: the later requester looks, and reads its own value, after each of the earlier one's steps";
      exchanges =
          ("(set-up 4 1 0)" ⇒ "(set-up (free 4))"
          ∷ "(begin 0)" ⇒ "(begin 0 (number 1) (snapshot 0))"
          ∷ "(begin 1)" ⇒ "(begin 1 (number 2) (snapshot 0))"
          ∷ "(write 0 7 000102030405060708090a0b0c0d0e0f)" ⇒ "(write 0 7 (free 3))"
          ∷ "(write 1 7 ffeeddccbbaa99887766554433221100)" ⇒ "(write 1 7 (free 2))"
          ∷ [])
          ++ stages 0 1 3
          ++ stages 1 1 4
          ++ flatten (map (λ (g : ℕ). stages 0 g 1 ++ still_waits) (4 ∷ 5 ∷ 6 ∷ 7 ∷ 8 ∷ 9 ∷ 10 ∷ 11 ∷ 12 ∷ 13 ∷ []))
          ++ ("(advance 0)" ⇒ "(advance 0 (done 1))"
          ∷ "(read 1 7)" ⇒ "(read 1 7 (value ffeeddccbbaa99887766554433221100))"
          ∷ "(advance 1)" ⇒ "(advance 1 (stage 5))"
          ∷ "(advance 1)" ⇒ "(advance 1 (conflict 1))"
          ∷ "(read 1 7)" ⇒ "(read 1 7 (refused 6))"
          ∷ "(begin 1)" ⇒ "(begin 1 (number 3) (snapshot 1))"
          ∷ "(read 1 7)" ⇒ "(read 1 7 (value 000102030405060708090a0b0c0d0e0f))"
          ∷ []);
    }
    ∷ record {
      name = "9: the last W";
      exchanges =
          ("(set-up 2 4294967295 0)" ⇒ "(set-up (free 2))"
          ∷ "(begin 0)" ⇒ "(begin 0 (number 4294967295) (snapshot 0))"
          ∷ "(begin 1)" ⇒ "(begin 1 (refused 8))"
          ∷ "(begin 0)" ⇒ "(begin 0 (refused 5))"
          ∷ "(abandon 0)" ⇒ "(abandon 0 (free 2))"
          ∷ "(begin 0)" ⇒ "(begin 0 (refused 8))"
          ∷ []);
    }
    ∷ record {
      name = "the commit queue: all rows are listed, a number is noted at 8, and the queue is left at 12";
      exchanges =
          -- a cell each: client 2 is at stage 6, not in the commit queue, when client 0 makes its list; client 1 is, without a number
          ("(set-up 4 1 0)" ⇒ "(set-up (free 4))"
          ∷ "(begin 0)" ⇒ "(begin 0 (number 1) (snapshot 0))"
          ∷ "(begin 1)" ⇒ "(begin 1 (number 2) (snapshot 0))"
          ∷ "(begin 2)" ⇒ "(begin 2 (number 3) (snapshot 0))"
          ∷ "(write 0 7 000102030405060708090a0b0c0d0e0f)" ⇒ "(write 0 7 (free 3))"
          ∷ "(write 1 8 000102030405060708090a0b0c0d0e0f)" ⇒ "(write 1 8 (free 2))"
          ∷ "(write 2 9 000102030405060708090a0b0c0d0e0f)" ⇒ "(write 2 9 (free 1))"
          ∷ [])
          ++ stages 2 1 6
          ++ stages 1 1 7
          ++ stages 0 1 10
          ++ ("(advance 0)" ⇒ "(advance 0 (waiting 1))"
          -- client 1 takes number 2, and has not noted it; then it has
          ∷ "(advance 1)" ⇒ "(advance 1 (stage 8))"
          ∷ "(advance 0)" ⇒ "(advance 0 (waiting 1))"
          ∷ "(advance 1)" ⇒ "(advance 1 (stage 9))"
          ∷ "(advance 0)" ⇒ "(advance 0 (stage 11))"
          ∷ "(advance 0)" ⇒ "(advance 0 (stage 12))"
          -- client 2 takes number 3, and waits for both others: client 0 is at stage 12
          ∷ [])
          ++ stages 2 7 4
          ++ ("(advance 2)" ⇒ "(advance 2 (waiting 2))"
          -- so does client 1, which lists both others, strikes client 2, and waits for client 0 until that is at stage 13
          ∷ "(advance 1)" ⇒ "(advance 1 (stage 10))"
          ∷ "(advance 1)" ⇒ "(advance 1 (waiting 1))"
          ∷ "(advance 0)" ⇒ "(advance 0 (stage 13))"
          ∷ "(advance 2)" ⇒ "(advance 2 (waiting 1))"
          ∷ "(advance 1)" ⇒ "(advance 1 (stage 11))"
          -- client 1 commits under 2, and client 2 still waits until it has left the queue
          ∷ "(advance 1)" ⇒ "(advance 1 (stage 12))"
          ∷ "(advance 2)" ⇒ "(advance 2 (waiting 1))"
          ∷ "(advance 1)" ⇒ "(advance 1 (stage 13))"
          ∷ "(advance 2)" ⇒ "(advance 2 (stage 11))"
          -- client 3, come later, does not list clients 0 and 1, which are at stage 13
          ∷ "(begin 3)" ⇒ "(begin 3 (number 4) (snapshot 2))"
          ∷ "(write 3 10 000102030405060708090a0b0c0d0e0f)" ⇒ "(write 3 10 (free 0))"
          ∷ [])
          ++ stages 2 12 2
          ++ stages 3 1 13
          ++ ("(advance 3)" ⇒ "(advance 3 (done 4))"
          ∷ "(advance 2)" ⇒ "(advance 2 (done 3))"
          ∷ "(advance 1)" ⇒ "(advance 1 (done 2))"
          ∷ "(advance 0)" ⇒ "(advance 0 (done 1))"
          ∷ []);
    }
    ∷ record {
      name = "the commit queue's lists name transactions: a client that leaves and comes again is not waited for";
      exchanges =
          ("(set-up 4 1 0)" ⇒ "(set-up (free 4))"
          ∷ "(begin 0)" ⇒ "(begin 0 (number 1) (snapshot 0))"
          ∷ "(begin 1)" ⇒ "(begin 1 (number 2) (snapshot 0))"
          ∷ "(write 0 7 000102030405060708090a0b0c0d0e0f)" ⇒ "(write 0 7 (free 3))"
          ∷ "(write 1 8 ffeeddccbbaa99887766554433221100)" ⇒ "(write 1 8 (free 2))"
          ∷ [])
          ++ stages 1 1 7
          ++ stages 0 1 10
          ++ ("(advance 0)" ⇒ "(advance 0 (waiting 1))"
          ∷ "(abandon 1)" ⇒ "(abandon 1 (free 3))"
          ∷ "(begin 1)" ⇒ "(begin 1 (number 3) (snapshot 0))"
          ∷ "(write 1 8 ffeeddccbbaa99887766554433221100)" ⇒ "(write 1 8 (free 2))"
          ∷ [])
          ++ stages 1 1 7
          ++ stages 0 11 3
          ++ ("(advance 0)" ⇒ "(advance 0 (done 1))"
          ∷ []);
    }
    ∷ record {
      name = "an Abandon at stage 11";
      exchanges =
          -- client 0 has commit number 1; client 1 waits for it in the commit queue, client 2, of the same cell, in the request queue
          ("(set-up 4 1 0)" ⇒ "(set-up (free 4))"
          ∷ "(begin 0)" ⇒ "(begin 0 (number 1) (snapshot 0))"
          ∷ "(begin 1)" ⇒ "(begin 1 (number 2) (snapshot 0))"
          ∷ "(begin 2)" ⇒ "(begin 2 (number 3) (snapshot 0))"
          ∷ "(write 0 7 000102030405060708090a0b0c0d0e0f)" ⇒ "(write 0 7 (free 3))"
          ∷ "(write 1 8 000102030405060708090a0b0c0d0e0f)" ⇒ "(write 1 8 (free 2))"
          ∷ "(write 2 7 ffeeddccbbaa99887766554433221100)" ⇒ "(write 2 7 (free 1))"
          ∷ [])
          ++ stages 0 1 11
          ++ stages 1 1 10
          ++ stages 2 1 4
          ++ ("(advance 1)" ⇒ "(advance 1 (waiting 1))"
          ∷ "(advance 2)" ⇒ "(advance 2 (waiting 1))"
          ∷ "(abandon 0)" ⇒ "(abandon 0 (free 2))"
          ∷ "(abandon 0)" ⇒ "(abandon 0 (refused 6))"
          -- nothing is committed, nobody waits for it, and its numbers are not given again
          ∷ "(begin 0)" ⇒ "(begin 0 (number 4) (snapshot 0))"
          ∷ "(read 0 7)" ⇒ "(read 0 7 (unwritten))"
          ∷ [])
          ++ stages 1 11 3
          ++ ("(advance 1)" ⇒ "(advance 1 (done 2))"
          ∷ [])
          ++ stages 2 5 7
          -- at stages 12 and 13 it gets 7
          ++ ("(advance 2)" ⇒ "(advance 2 (stage 12))"
          ∷ "(abandon 2)" ⇒ "(abandon 2 (refused 7))"
          ∷ "(advance 2)" ⇒ "(advance 2 (stage 13))"
          ∷ "(abandon 2)" ⇒ "(abandon 2 (refused 7))"
          ∷ "(advance 2)" ⇒ "(advance 2 (done 3))"
          ∷ "(read 0 7)" ⇒ "(read 0 7 (unwritten))"
          ∷ "(free)" ⇒ "(free (free 2))"
          ∷ []);
    }
    ∷ record {
      name = "before a set-up, and set-ups that are refused";
      exchanges =
          -- "Before a set-up the store has 0 rows"
          ("(begin 0)" ⇒ "(begin 0 (refused 2))"
          ∷ "(read 64 1024)" ⇒ "(read 64 1024 (refused 2))"
          ∷ "(write 0 7 000102030405060708090a0b0c0d0e0f)" ⇒ "(write 0 7 (refused 2))"
          ∷ "(advance 0)" ⇒ "(advance 0 (refused 2))"
          ∷ "(abandon 0)" ⇒ "(abandon 0 (refused 2))"
          ∷ "(trim)" ⇒ "(trim (refused 2))"
          ∷ "(free)" ⇒ "(free (refused 2))"
          -- a refused one leaves it so
          ∷ "(set-up 0 1 0)" ⇒ "(set-up (refused 1))"
          ∷ "(set-up 2 0 0)" ⇒ "(set-up (refused 1))"
          ∷ "(free)" ⇒ "(free (refused 2))"
          -- "the limit is above 64"; "a refused set-up keeps the old one, and rows outside 1 to 1,024 print (set-up (refused 1))"
          ∷ "(set-up 2 5 64)" ⇒ "(set-up (free 2))"
          ∷ "(begin 0)" ⇒ "(begin 0 (number 5) (snapshot 0))"
          ∷ "(write 0 7 000102030405060708090a0b0c0d0e0f)" ⇒ "(write 0 7 (free 1))"
          ∷ "(set-up 1 1 65)" ⇒ "(set-up (refused 1))"
          ∷ "(set-up 0 1 0)" ⇒ "(set-up (refused 1))"
          ∷ "(set-up 1025 1 0)" ⇒ "(set-up (refused 1))"
          ∷ "(set-up 4294967295 1 0)" ⇒ "(set-up (refused 1))"
          ∷ "(set-up 1 0 0)" ⇒ "(set-up (refused 1))"
          ∷ "(read 0 7)" ⇒ "(read 0 7 (value 000102030405060708090a0b0c0d0e0f))"
          ∷ "(begin 1)" ⇒ "(begin 1 (number 6) (snapshot 0))"
          ∷ "(free)" ⇒ "(free (free 1))"
          -- an accepted one begins anew
          ∷ "(set-up 3 1 0)" ⇒ "(set-up (free 3))"
          ∷ "(read 0 7)" ⇒ "(read 0 7 (refused 6))"
          ∷ "(begin 0)" ⇒ "(begin 0 (number 1) (snapshot 0))"
          ∷ "(read 0 7)" ⇒ "(read 0 7 (unwritten))"
          ∷ []);
    }
    ∷ record {
      name = "lines that are no form";
      exchanges =
          ("(set-up 2 1 0)" ⇒ "(set-up (free 2))"
          ∷ "(begin 0)" ⇒ "(begin 0 (number 1) (snapshot 0))"
          -- "decimal without leading zeros up to 4,294,967,295"
          ∷ "(begin 01)" ⇒ "(line (refused 13))"
          ∷ "(begin 00)" ⇒ "(line (refused 13))"
          ∷ "(set-up 02 1 0)" ⇒ "(line (refused 13))"
          ∷ "(set-up 2 01 0)" ⇒ "(line (refused 13))"
          ∷ "(set-up 2 1 00)" ⇒ "(line (refused 13))"
          ∷ "(read 0 007)" ⇒ "(line (refused 13))"
          ∷ "(write 0 07 000102030405060708090a0b0c0d0e0f)" ⇒ "(line (refused 13))"
          ∷ "(begin 4294967295)" ⇒ "(begin 4294967295 (refused 3))"
          ∷ "(begin 4294967296)" ⇒ "(line (refused 13))"
          ∷ "(begin -1)" ⇒ "(line (refused 13))"
          ∷ "(begin a)" ⇒ "(line (refused 13))"
          ∷ "(begin )" ⇒ "(line (refused 13))"
          -- "values as 32 lower-case hexadecimal digits": an upper-case one, one that is none, 31 and 33 of them
          ∷ "(write 0 7 000102030405060708090A0b0c0d0e0f)" ⇒ "(line (refused 13))"
          ∷ "(write 0 7 000102030405060708090a0b0c0d0e0F)" ⇒ "(line (refused 13))"
          ∷ "(write 0 7 g00102030405060708090a0b0c0d0e0f)" ⇒ "(line (refused 13))"
          ∷ "(write 0 7 000102030405060708090a0b0c0d0e0)" ⇒ "(line (refused 13))"
          ∷ "(write 0 7 000102030405060708090a0b0c0d0e0f0)" ⇒ "(line (refused 13))"
          ∷ "(write 0 7)" ⇒ "(line (refused 13))"
          -- "single spaces", and nothing in front or behind
          ∷ "(begin  1)" ⇒ "(line (refused 13))"
          ∷ "(read 0  7)" ⇒ "(line (refused 13))"
          ∷ "(read 0,7)" ⇒ "(line (refused 13))"
          ∷ "(read 0 7 )" ⇒ "(line (refused 13))"
          ∷ " (begin 1)" ⇒ "(line (refused 13))"
          ∷ "(begin 1) " ⇒ "(line (refused 13))"
          ∷ "(begin 1))" ⇒ "(line (refused 13))"
          ∷ "(begin 1)(begin 1)" ⇒ "(line (refused 13))"
          ∷ "(begin 1" ⇒ "(line (refused 13))"
          ∷ "(begin 1]" ⇒ "(line (refused 13))"
          ∷ "(free) " ⇒ "(line (refused 13))"
          ∷ "(trim)x" ⇒ "(line (refused 13))"
          ∷ "(free 0)" ⇒ "(line (refused 13))"
          ∷ "(read 0)" ⇒ "(line (refused 13))"
          ∷ "(read 0 7 7)" ⇒ "(line (refused 13))"
          ∷ "(set-up 2 1)" ⇒ "(line (refused 13))"
          ∷ "(Begin 1)" ⇒ "(line (refused 13))"
          ∷ "begin 1" ⇒ "(line (refused 13))"
          -- "an empty one or one over 80 bytes": one of 81; the longest form has 62
          ∷ "" ⇒ "(line (refused 13))"
          ∷ "(free)..........................................................................." ⇒ "(line (refused 13))"
          ∷ "(write 4294967295 4294967295 000102030405060708090a0b0c0d0e0f)" ⇒ "(write 4294967295 4294967295 (refused 3))"
          -- none of them has changed anything
          ∷ "(read 0 7)" ⇒ "(read 0 7 (unwritten))"
          ∷ "(begin 1)" ⇒ "(begin 1 (number 2) (snapshot 0))"
          ∷ []);
    }
    ∷ []
