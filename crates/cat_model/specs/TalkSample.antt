-- A talk that was judged by hand.
use Rattle.std.specs.Prelude.{List, [], ◌∷◌, ◌++◌, codes}
use Rattle.std.specs.List.{AllByRecursion}
use Rattle.cat_model.specs.Talk.{Pair, IsReply, IsWrite, ShowsHold, IsRead, HeldAsk}

-- what was said and replied before the read: session 7 holds 1, and session 8 held it
abbrev pub said_before : List Pair
said_before =
    record { line = codes "1 PUT {\"id\":\"a\"}"; reply = codes "1 OK 1\n" }
    ∷ record { line = codes "1 REFRESH"; reply = codes "1 OK 1\n" }
    ∷ record { line = codes "7 OPEN"; reply = codes "7 OK 1\n" }
    ∷ record { line = codes "8 OPEN 1"; reply = codes "8 OK 1\n" }
    ∷ record { line = codes "1 DEL a"; reply = codes "1 OK 2\n" }
    ∷ record { line = codes "8 CLOSE 1"; reply = codes "8 OK 1\n" }
    ∷ []

-- and the read
abbrev pub said_at_all : List Pair
said_at_all = said_before ++ record { line = codes "7 FIND 1 10 . . *:*"; reply = codes "7 OK 1 1\n7 1 a .\n" } ∷ []

-- what it shows
pub record SampleIsJudged : Type 0 where
  pub replies : AllByRecursion (λ p. IsReply p.reply) said_at_all
  pub put : IsWrite said_at_all 1 (codes "PUT {\"id\":\"a\"}")
  pub deleted : IsWrite said_at_all 2 (codes "DEL a")
  pub read : IsRead 1 (codes "FIND 1 10 . . *:*")
  pub asked : HeldAsk said_at_all 1 7 (codes "FIND 1 10 . . *:*") (codes "7 OK 1 1\n7 1 a .\n")
  pub closed : ShowsHold said_before 8 1 → ⊥
