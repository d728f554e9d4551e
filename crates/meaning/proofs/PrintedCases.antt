-- What the program prints for files: 156 of them, matched by id. An independent model of the rules gave the expected lines.
use Rattle.std.proofs.Common.{◌≡◌, ℕ, List, [], ◌∷◌, ◌++◌, codes, refl}
use Rattle.meaning.specs.Picks.{by_id}
use Rattle.meaning.specs.Print.{printed}
use Rattle.meaning.proofs.CaseFiles.{two_doubles, file0, file1, file2, file3, file4, file5, file6, file7, file8, file9, file10, file11, file12, file13, file14, file15, file16, file17, file18, file19, file20, file21, file22, file23, file24, file25, file26, file27, file28, file29, file30, file31, file32, file33, file34, file35, file36, file37, file38, file39, file40, file41, file42, file43, file44, file45, file46, file47, file48, file49, file50, file51, file52, file53, file54, file55, file56, file57, file58, file59, file60, file61, file62, file63, file64, file65, file66, file67, file68, file69, file70, file71, file72, file73, file74, file75, file76, file77, file78, file79, file80, file81, file82, file83, file84, file85, file86, file87, file88, file89, file90, file91, file92, file93, file94, file95, file96, file97, file98, file99, file100, file101, file102, file103, file104, file105, file106, file107, file108, file109, file110, file111, file112, file113, file114, file115, file116, file117, file118, file119, file120, file121, file122, file123, file124, file125, file126, file127, file128, file129, file130, file131, file132, file133, file134, file135, file136, file137, file138, file139, file140, file141, file142, file143, file144, file145, file146, file147, file148, file149, file150, file151, file152, file153, file154, file155}

-- lines, each with its end
abbrev lines : List (List ℕ) → List ℕ
lines [] = []
lines (l ∷ ls) = l ++ (10 ∷ lines ls)

two-doubles : printed by_id two_doubles ≡ lines (codes "rows 2" ∷ codes "row 0 {7ff8000000000000}" ∷ codes "row 1 {null}" ∷ codes "nan 4 1" ∷ [])
two-doubles = refl

case0 : printed by_id file0 ≡ lines (codes "rows 8" ∷ codes "row 0 {-1,-1,1}" ∷ codes "row 1 {1,2143289344,9223372036854775807}" ∷ codes "row 2 {-75,2143289344,0}" ∷ codes "row 3 {-9223372036854775808,1,61}" ∷ codes "row 4 {2143289344,2143289344,-1}" ∷ codes "row 5 {-1,-9223372036854775808,2143289344}" ∷ codes "row 6 {-1,1,-1}" ∷ codes "row 7 {2143289344,1,0}" ∷ [])
case0 = refl

case1 : printed by_id file1 ≡ lines (codes "rows 1" ∷ codes "row 0 {[<.cc830419173a8f03b536f130960f0ffd:{7f800001}>],.0a5c4d}" ∷ codes "nan -2147483648 1" ∷ [])
case1 = refl

case2 : printed by_id file2 ≡ lines (codes "rows 9" ∷ codes "row 0 {8000000000000001,.6162}" ∷ codes "row 1 {7fefffffffffffff,.6162}" ∷ codes "row 2 {fff8000000000002,.61}" ∷ codes "row 3 {7fffffffffffffff,.00}" ∷ codes "row 4 {8000000000000000,.}" ∷ codes "row 5 {7fffffffffffffff,.6162}" ∷ codes "row 6 {7ff0000000000000,.73746172}" ∷ codes "row 7 {fff0000000000000,.6162}" ∷ codes "row 8 {8000000000000001,.c3a9}" ∷ codes "nan -1 3" ∷ [])
case2 = refl

case3 : printed by_id file3 ≡ lines (codes "refused 15 field 1 column 1" ∷ [])
case3 = refl

case4 : printed by_id file4 ≡ lines (codes "rows 2" ∷ codes "row 0 {.8bdd9586b81a2e0408092235412fd034}" ∷ codes "row 1 {.a05e43543621b45c3a66bca012a7b61f}" ∷ [])
case4 = refl

case5 : printed by_id file5 ≡ lines (codes "refused 11 field 2 column 1" ∷ [])
case5 = refl

case6 : printed by_id file6 ≡ lines (codes "rows 3" ∷ codes "row 0 {[],bff0000000000000,[<>]}" ∷ codes "row 1 {[],7ff0000000000000,[<>]}" ∷ codes "row 2 {[.3937],4045000000000000,[]}" ∷ codes "nan -7 0" ∷ codes "nan 128 1" ∷ [])
case6 = refl

case7 : printed by_id file7 ≡ lines (codes "rows 4" ∷ codes "row 0 {<0:[fff0000000000000]>,0}" ∷ codes "row 1 {<3:[]>,1}" ∷ codes "row 2 {<3:[7fffffffffffffff]>,2143289344}" ∷ codes "row 3 {<1:[7ff8000000000000]>,1}" ∷ codes "nan 1 2" ∷ [])
case7 = refl

case8 : printed by_id file8 ≡ lines (codes "refused 15 field 2 column 1" ∷ [])
case8 = refl

case9 : printed by_id file9 ≡ lines (codes "rows 1" ∷ codes "row 0 {}" ∷ [])
case9 = refl

case10 : printed by_id file10 ≡ lines (codes "rows 5" ∷ codes "row 0 {[[],[-1]],{}}" ∷ codes "row 1 {[[2147483647],[]],{}}" ∷ codes "row 2 {[],{}}" ∷ codes "row 3 {[[],[],[]],{}}" ∷ codes "row 4 {[[-1],[0],[-1]],{}}" ∷ [])
case10 = refl

case11 : printed by_id file11 ≡ lines (codes "rows 5" ∷ codes "row 0 {bf800000,bf800000,.c5,.fc,0,fff0000000000001}" ∷ codes "row 1 {ffffffff,ffffffff,.8e,.54,-1,7ff0000000000000}" ∷ codes "row 2 {ff800001,ff800001,.8e,.54,2143289344,null}" ∷ codes "row 3 {ffc00001,ffc00001,.c5,.fc,1,7ff8000000000000}" ∷ codes "row 4 {ff800001,ff800001,.c5,.54,-84,null}" ∷ codes "nan -7 8" ∷ codes "nan 1458383367 2" ∷ [])
case11 = refl

case12 : printed by_id file12 ≡ lines (codes "rows 3" ∷ codes "row 0 {ffffffffffffffff,.73746172,7f800001}" ∷ codes "row 1 {null,.,42280000}" ∷ codes "row 2 {null,.6162,7fc00000}" ∷ codes "nan 6 2" ∷ codes "nan 8 1" ∷ [])
case12 = refl

case13 : printed by_id file13 ≡ lines (codes "rows 0" ∷ [])
case13 = refl

case14 : printed by_id file14 ≡ lines (codes "refused 11 field 1 column 0" ∷ [])
case14 = refl

case15 : printed by_id file15 ≡ lines (codes "refused 15 field 1 column 1" ∷ [])
case15 = refl

case16 : printed by_id file16 ≡ lines (codes "refused 11 field 3 column 0" ∷ [])
case16 = refl

case17 : printed by_id file17 ≡ lines (codes "rows 2" ∷ codes "row 0 {4045000000000000,-1}" ∷ codes "row 1 {fff0000000000001,-1}" ∷ codes "nan -2 1" ∷ [])
case17 = refl

case18 : printed by_id file18 ≡ lines (codes "rows 0" ∷ codes "nan 101 0" ∷ codes "nan 104 0" ∷ codes "nan 105 0" ∷ codes "nan 106 0" ∷ codes "nan 107 0" ∷ [])
case18 = refl

case19 : printed by_id file19 ≡ lines (codes "rows 1" ∷ codes "row 0 {[fff0000000000000,8000000000000001,3ff0000000000000]}" ∷ codes "nan 5 0" ∷ [])
case19 = refl

case20 : printed by_id file20 ≡ lines (codes "rows 7" ∷ codes "row 0 {.9ec03902ffecd3289cca33211a75f924,[null,null],.9ec03902ffecd3289cca33211a75f924,{}}" ∷ codes "row 1 {.bb48a12b1ccd632b2cab0303bf5dea33,[null],.bb48a12b1ccd632b2cab0303bf5dea33,{}}" ∷ codes "row 2 {.bb48a12b1ccd632b2cab0303bf5dea33,[null],.bb48a12b1ccd632b2cab0303bf5dea33,{}}" ∷ codes "row 3 {.bb48a12b1ccd632b2cab0303bf5dea33,[],.bb48a12b1ccd632b2cab0303bf5dea33,{}}" ∷ codes "row 4 {.b6e6631ed29b0132ed3cbe5d8d29fbf1,[null,null],.b6e6631ed29b0132ed3cbe5d8d29fbf1,{}}" ∷ codes "row 5 {.9ec03902ffecd3289cca33211a75f924,[],.9ec03902ffecd3289cca33211a75f924,{}}" ∷ codes "row 6 {.9ec03902ffecd3289cca33211a75f924,[null],.9ec03902ffecd3289cca33211a75f924,{}}" ∷ [])
case20 = refl

case21 : printed by_id file21 ≡ lines (codes "rows 7" ∷ codes "row 0 {false,-9223372036854775808}" ∷ codes "row 1 {true,-85}" ∷ codes "row 2 {true,-9223372036854775808}" ∷ codes "row 3 {true,1}" ∷ codes "row 4 {false,9223372036854775807}" ∷ codes "row 5 {true,-9223372036854775808}" ∷ codes "row 6 {false,-1}" ∷ [])
case21 = refl

case22 : printed by_id file22 ≡ lines (codes "refused 15 field 1 column 1" ∷ [])
case22 = refl

case23 : printed by_id file23 ≡ lines (codes "rows 4" ∷ codes "row 0 {}" ∷ codes "row 1 {}" ∷ codes "row 2 {}" ∷ codes "row 3 {}" ∷ [])
case23 = refl

case24 : printed by_id file24 ≡ lines (codes "refused 12 field 1 column 1" ∷ [])
case24 = refl

case25 : printed by_id file25 ≡ lines (codes "rows 1" ∷ codes "row 0 {8000000000000000,.62,true}" ∷ codes "nan 4 0" ∷ [])
case25 = refl

case26 : printed by_id file26 ≡ lines (codes "refused 14 field 1 column 1" ∷ [])
case26 = refl

case27 : printed by_id file27 ≡ lines (codes "rows 2" ∷ codes "row 0 {}" ∷ codes "row 1 {}" ∷ [])
case27 = refl

case28 : printed by_id file28 ≡ lines (codes "rows 1" ∷ codes "row 0 {1,1,1}" ∷ [])
case28 = refl

case29 : printed by_id file29 ≡ lines (codes "refused 15 field 1 column 1" ∷ [])
case29 = refl

case30 : printed by_id file30 ≡ lines (codes "rows 2" ∷ codes "row 0 {}" ∷ codes "row 1 {}" ∷ [])
case30 = refl

case31 : printed by_id file31 ≡ lines (codes "rows 9" ∷ codes "row 0 {}" ∷ codes "row 1 {}" ∷ codes "row 2 {}" ∷ codes "row 3 {}" ∷ codes "row 4 {}" ∷ codes "row 5 {}" ∷ codes "row 6 {}" ∷ codes "row 7 {}" ∷ codes "row 8 {}" ∷ [])
case31 = refl

case32 : printed by_id file32 ≡ lines (codes "rows 8" ∷ codes "row 0 {0000000000000001,fff0000000000000,2143289344}" ∷ codes "row 1 {000000007ff80000,0000000000000000,1}" ∷ codes "row 2 {7ff8000000000000,7fffffffffffffff,9223372036854775807}" ∷ codes "row 3 {000000007ff80000,7fefffffffffffff,-22}" ∷ codes "row 4 {bff0000000000000,0000000000000000,2143289344}" ∷ codes "row 5 {bff0000000000000,8000000000000000,1}" ∷ codes "row 6 {7fffffffffffffff,fff8000000000002,-1}" ∷ codes "row 7 {7fffffffffffffff,4045000000000000,6}" ∷ codes "nan 1 3" ∷ codes "nan 9 2" ∷ [])
case32 = refl

case33 : printed by_id file33 ≡ lines (codes "rows 4" ∷ codes "row 0 {3ff0000000000000,bff0000000000000}" ∷ codes "row 1 {fff0000000000000,8000000000000001}" ∷ codes "row 2 {ffffffffffffffff,8000000000000000}" ∷ codes "row 3 {fff0000000000001,8000000000000001}" ∷ codes "nan 5 2" ∷ codes "nan 9 0" ∷ [])
case33 = refl

case34 : printed by_id file34 ≡ lines (codes "rows 0" ∷ [])
case34 = refl

case35 : printed by_id file35 ≡ lines (codes "rows 8" ∷ codes "row 0 {.c1d12d,.ce76}" ∷ codes "row 1 {null,.ce76}" ∷ codes "row 2 {null,.f2db}" ∷ codes "row 3 {.c1d12d,.ce76}" ∷ codes "row 4 {null,.ce76}" ∷ codes "row 5 {.c1d12d,.ce76}" ∷ codes "row 6 {.81497e,.f2db}" ∷ codes "row 7 {.468390,.133d}" ∷ [])
case35 = refl

case36 : printed by_id file36 ≡ lines (codes "rows 17" ∷ codes "row 0 {7fffffff,7fffffff}" ∷ codes "row 1 {00000001,00000001}" ∷ codes "row 2 {3f800000,3f800000}" ∷ codes "row 3 {00000000,00000000}" ∷ codes "row 4 {7f800000,7f800000}" ∷ codes "row 5 {00000000,00000000}" ∷ codes "row 6 {bf800000,bf800000}" ∷ codes "row 7 {7f800001,7f800001}" ∷ codes "row 8 {bf800000,bf800000}" ∷ codes "row 9 {null,null}" ∷ codes "row 10 {3f800000,3f800000}" ∷ codes "row 11 {00000001,00000001}" ∷ codes "row 12 {bf800000,bf800000}" ∷ codes "row 13 {3f800000,3f800000}" ∷ codes "row 14 {7fffffff,7fffffff}" ∷ codes "row 15 {7fffffff,7fffffff}" ∷ codes "row 16 {7f800001,7f800001}" ∷ codes "nan -1 10" ∷ [])
case36 = refl

case37 : printed by_id file37 ≡ lines (codes "rows 0" ∷ [])
case37 = refl

case38 : printed by_id file38 ≡ lines (codes "refused 3 byte 148 column 3" ∷ [])
case38 = refl

case39 : printed by_id file39 ≡ lines (codes "refused 10 field 5 column 3" ∷ [])
case39 = refl

case40 : printed by_id file40 ≡ lines (codes "rows 1" ∷ codes "row 0 {null,[4045000000000000],0}" ∷ codes "nan 104 2" ∷ [])
case40 = refl

case41 : printed by_id file41 ≡ lines (codes "rows 0" ∷ [])
case41 = refl

case42 : printed by_id file42 ≡ lines (codes "rows 3" ∷ codes "row 0 {[.fdd42f3db675e39bab66c5ff9f5a17a3,.fdd42f3db675e39bab66c5ff9f5a17a3,.fdd42f3db675e39bab66c5ff9f5a17a3],-2147483648}" ∷ codes "row 1 {[.941cbcd44383bcd9352126a6ae9b63db,.604341d7ae3f4ea53551fbac3e384c04,.604341d7ae3f4ea53551fbac3e384c04],-1}" ∷ codes "row 2 {[.fdd42f3db675e39bab66c5ff9f5a17a3,.604341d7ae3f4ea53551fbac3e384c04,.604341d7ae3f4ea53551fbac3e384c04],-46}" ∷ [])
case42 = refl

case43 : printed by_id file43 ≡ lines (codes "refused 11 field 1 column 0" ∷ [])
case43 = refl

case44 : printed by_id file44 ≡ lines (codes "rows 3" ∷ codes "row 0 {1,0000000000000001,[bff0000000000000]}" ∷ codes "row 1 {1,fff0000000000000,[7ff0000100000000]}" ∷ codes "row 2 {-9223372036854775808,3ff0000000000000,[ffffffffffffffff]}" ∷ codes "nan 9 0" ∷ codes "nan 11 2" ∷ [])
case44 = refl

case45 : printed by_id file45 ≡ lines (codes "rows 3" ∷ codes "row 0 {-9223372036854775808,8000000000000001,ffffffffffffffff}" ∷ codes "row 1 {-1,8000000000000000,7ff0000000000000}" ∷ codes "row 2 {9223372036854775807,7ff0000000000000,7ff0000100000000}" ∷ codes "nan 3 0" ∷ codes "nan 4 2" ∷ [])
case45 = refl

case46 : printed by_id file46 ≡ lines (codes "rows 2" ∷ codes "row 0 {<bff0000000000000:null,fff8000000000002:7ff8000000000000>,80000001,[[7f800001,bf800000,ff800001]],80000001}" ∷ codes "row 1 {<fff0000000000001:null>,ffc00001,null,00000000}" ∷ codes "nan 2 3" ∷ codes "nan 4 4" ∷ codes "nan 8 1" ∷ codes "nan 9 1" ∷ [])
case46 = refl

case47 : printed by_id file47 ≡ lines (codes "refused 1 byte 49 field 6" ∷ [])
case47 = refl

case48 : printed by_id file48 ≡ lines (codes "refused 11 field 1 column 0" ∷ [])
case48 = refl

case49 : printed by_id file49 ≡ lines (codes "rows 2" ∷ codes "row 0 {true,<.6bbc:2147483647>,7fffffff}" ∷ codes "row 1 {false,<.aabb:2147483647,.ac5f:2143289344>,80000001}" ∷ codes "nan 6 1" ∷ [])
case49 = refl

case50 : printed by_id file50 ≡ lines (codes "rows 4" ∷ codes "row 0 {null,fff0000000000001,fff0000000000001,fff0000000000000,0000000000000000,null}" ∷ codes "row 1 {null,3ff0000000000000,3ff0000000000000,8000000000000001,8000000000000001,null}" ∷ codes "row 2 {null,ffffffffffffffff,ffffffffffffffff,8000000000000001,7ff0000000000000,null}" ∷ codes "row 3 {null,0000000000000000,0000000000000000,0000000000000000,8000000000000000,null}" ∷ codes "nan 2 4" ∷ codes "nan 5 0" ∷ codes "nan 7 0" ∷ [])
case50 = refl

case51 : printed by_id file51 ≡ lines (codes "rows 1" ∷ codes "row 0 {[[[[{[{[[{<11:{{{<15:fff0000000000000>}}}>}]]}]}]]]]}" ∷ codes "nan 16 0" ∷ [])
case51 = refl

case52 : printed by_id file52 ≡ lines (codes "rows 2" ∷ codes "row 0 {null,null,[7fffffff]}" ∷ codes "row 1 {{},{},[42280000]}" ∷ codes "nan 0 1" ∷ [])
case52 = refl

case53 : printed by_id file53 ≡ lines (codes "rows 2" ∷ codes "row 0 {50,42280000}" ∷ codes "row 1 {-57,42280000}" ∷ codes "nan 5 0" ∷ [])
case53 = refl

case54 : printed by_id file54 ≡ lines (codes "rows 8" ∷ codes "row 0 {<>,null}" ∷ codes "row 1 {<7fc00000:0000000000000001>,{null,91,80000000}}" ∷ codes "row 2 {<ffc00001:7fffffffffffffff>,{null,9223372036854775807,ff800000}}" ∷ codes "row 3 {<>,{null,9223372036854775807,bf800000}}" ∷ codes "row 4 {<>,{null,35,7fffffff}}" ∷ codes "row 5 {<7fffffff:7ff0000100000000>,null}" ∷ codes "row 6 {<3f800000:7ff0000100000000,7f800000:000000007ff80000>,{null,9223372036854775807,null}}" ∷ codes "row 7 {<00000001:0000000000000001>,null}" ∷ codes "nan 0 0" ∷ codes "nan 3 1" ∷ codes "nan 4 3" ∷ codes "nan 6 3" ∷ [])
case54 = refl

case55 : printed by_id file55 ≡ lines (codes "refused 3 byte 12 field 1" ∷ [])
case55 = refl

case56 : printed by_id file56 ≡ lines (codes "refused 14 field 3 column 4" ∷ [])
case56 = refl

case57 : printed by_id file57 ≡ lines (codes "rows 2" ∷ codes "row 0 {<false:{0}>,-2147483648}" ∷ codes "row 1 {<false:{null}>,2143289344}" ∷ [])
case57 = refl

case58 : printed by_id file58 ≡ lines (codes "rows 7" ∷ codes "row 0 {[null],[-2147483648,1],bf800000,null}" ∷ codes "row 1 {[.ff,.61],[2147483647,18],ff800000,null}" ∷ codes "row 2 {[.00,.73746172],[-11,0],ff800001,null}" ∷ codes "row 3 {[],[2143289344,96],80000000,null}" ∷ codes "row 4 {[.73746172],[2143289344,2143289344],00000000,null}" ∷ codes "row 5 {[.c3a9],[1,1],ffc00001,null}" ∷ codes "row 6 {[null],[1,-87],7fffffff,null}" ∷ codes "nan 4 3" ∷ codes "nan 6 6" ∷ [])
case58 = refl

case59 : printed by_id file59 ≡ lines (codes "refused 5 byte 67 column 2" ∷ [])
case59 = refl

case60 : printed by_id file60 ≡ lines (codes "rows 2" ∷ codes "row 0 {null,.259838eb5be5327b234d0cb1767cfeff}" ∷ codes "row 1 {null,.440dc303b880b5fc7fadb2ef0f8e1f7c}" ∷ codes "nan 3 1" ∷ [])
case60 = refl

case61 : printed by_id file61 ≡ lines (codes "rows 1" ∷ codes "row 0 {null}" ∷ codes "nan 1 0" ∷ [])
case61 = refl

case62 : printed by_id file62 ≡ lines (codes "refused 19 field 1 column 1" ∷ [])
case62 = refl

case63 : printed by_id file63 ≡ lines (codes "refused 6 byte 19 column 2" ∷ [])
case63 = refl

case64 : printed by_id file64 ≡ lines (codes "rows 1" ∷ codes "row 0 {-1,<>}" ∷ codes "nan 2 0" ∷ [])
case64 = refl

case65 : printed by_id file65 ≡ lines (codes "rows 1" ∷ codes "row 0 {{},[]}" ∷ codes "nan 10 2" ∷ [])
case65 = refl

case66 : printed by_id file66 ≡ lines (codes "refused 12 field 5 column 5" ∷ [])
case66 = refl

case67 : printed by_id file67 ≡ lines (codes "refused 6 byte 25 column 1" ∷ [])
case67 = refl

case68 : printed by_id file68 ≡ lines (codes "refused 1 byte 132 column 2" ∷ [])
case68 = refl

case69 : printed by_id file69 ≡ lines (codes "rows 7" ∷ codes "row 0 {[{}],{42280000}}" ∷ codes "row 1 {[{}],{7fffffff}}" ∷ codes "row 2 {[{}],{7fffffff}}" ∷ codes "row 3 {[{},{}],{ff800000}}" ∷ codes "row 4 {[{},{}],{80000001}}" ∷ codes "row 5 {[],null}" ∷ codes "row 6 {[],{bf800000}}" ∷ codes "nan 1 2" ∷ [])
case69 = refl

case70 : printed by_id file70 ≡ lines (codes "refused 3 byte 51 field 6" ∷ [])
case70 = refl

case71 : printed by_id file71 ≡ lines (codes "refused 6 byte 35 column 1" ∷ [])
case71 = refl

case72 : printed by_id file72 ≡ lines (codes "refused 1 byte 21 column 1" ∷ [])
case72 = refl

case73 : printed by_id file73 ≡ lines (codes "rows 4" ∷ codes "row 0 {[[0000000000000001,7ff0000000000001]]}" ∷ codes "row 1 {[]}" ∷ codes "row 2 {[]}" ∷ codes "row 3 {[]}" ∷ codes "nan -1 1" ∷ [])
case73 = refl

case74 : printed by_id file74 ≡ lines (codes "refused 21 field 0 column 0" ∷ [])
case74 = refl

case75 : printed by_id file75 ≡ lines (codes "refused 11 field 2 column 0" ∷ [])
case75 = refl

case76 : printed by_id file76 ≡ lines (codes "refused 11 field 1 column 0" ∷ [])
case76 = refl

case77 : printed by_id file77 ≡ lines (codes "rows 1" ∷ codes "row 0 {[],-2147483648,<1:2143289344>}" ∷ [])
case77 = refl

case78 : printed by_id file78 ≡ lines (codes "rows 2" ∷ codes "row 0 {[[ff800001,3f800000,ff800001],[7fc00000,80000000,7fffffff],[42280000,7fc00000,80000000]],{}}" ∷ codes "row 1 {[[42280000,ff800001,7fc00000],[7f7fffff,00000001,7f800000],[ffc00001,80000000,ff800000]],{}}" ∷ codes "nan 1 8" ∷ [])
case78 = refl

case79 : printed by_id file79 ≡ lines (codes "refused 11 field 7 column 0" ∷ [])
case79 = refl

case80 : printed by_id file80 ≡ lines (codes "refused 11 field 2 column 1" ∷ [])
case80 = refl

case81 : printed by_id file81 ≡ lines (codes "refused 11 field 3 column 2" ∷ [])
case81 = refl

case82 : printed by_id file82 ≡ lines (codes "rows 3" ∷ codes "row 0 {[7fffffff],[false,true,true]}" ∷ codes "row 1 {[7f7fffff],[false,false,false]}" ∷ codes "row 2 {[],[false,false,true]}" ∷ codes "nan -1 3" ∷ [])
case82 = refl

case83 : printed by_id file83 ≡ lines (codes "refused 14 field 1 column 5" ∷ [])
case83 = refl

case84 : printed by_id file84 ≡ lines (codes "rows 3" ∷ codes "row 0 {[]}" ∷ codes "row 1 {[7fffffff]}" ∷ codes "row 2 {[00000000,7f800001,3f800000]}" ∷ codes "nan 3 3" ∷ [])
case84 = refl

case85 : printed by_id file85 ≡ lines (codes "refused 14 field 4 column 5" ∷ [])
case85 = refl

case86 : printed by_id file86 ≡ lines (codes "rows 3" ∷ codes "row 0 {<0000000000000000:null>,.6162,.6162}" ∷ codes "row 1 {<7ff0000000000000:null,0000000000000000:null,7fffffffffffffff:fff0000000000001>,.ff,.ff}" ∷ codes "row 2 {<>,.73746172,.73746172}" ∷ codes "nan -1 1" ∷ codes "nan 0 1" ∷ [])
case86 = refl

case87 : printed by_id file87 ≡ lines (codes "refused 21 field 0 column 0" ∷ [])
case87 = refl

case88 : printed by_id file88 ≡ lines (codes "refused 14 field 2 column 2" ∷ [])
case88 = refl

case89 : printed by_id file89 ≡ lines (codes "refused 11 field 1 column 0" ∷ [])
case89 = refl

case90 : printed by_id file90 ≡ lines (codes "refused 3 byte 202 column 5" ∷ [])
case90 = refl

case91 : printed by_id file91 ≡ lines (codes "refused 8 byte 4 head 0" ∷ [])
case91 = refl

case92 : printed by_id file92 ≡ lines (codes "refused 11 field 1 column 0" ∷ [])
case92 = refl

case93 : printed by_id file93 ≡ lines (codes "refused 13 field 2 column 2" ∷ [])
case93 = refl

case94 : printed by_id file94 ≡ lines (codes "refused 11 field 2 column 1" ∷ [])
case94 = refl

case95 : printed by_id file95 ≡ lines (codes "refused 13 field 2 column 2" ∷ [])
case95 = refl

case96 : printed by_id file96 ≡ lines (codes "refused 1 byte 87 column 2" ∷ [])
case96 = refl

case97 : printed by_id file97 ≡ lines (codes "rows 4" ∷ codes "row 0 {[.9b],ff800000,<2:true>,{}}" ∷ codes "row 1 {[],80000000,<1:true>,{}}" ∷ codes "row 2 {[],7f7fffff,<0:false>,{}}" ∷ codes "row 3 {[.3b],ffc00001,<2:true>,{}}" ∷ codes "nan 10 1" ∷ [])
case97 = refl

case98 : printed by_id file98 ≡ lines (codes "refused 11 field 1 column 0" ∷ [])
case98 = refl

case99 : printed by_id file99 ≡ lines (codes "refused 13 field 1 column 2" ∷ [])
case99 = refl

case100 : printed by_id file100 ≡ lines (codes "refused 8 byte 88 head 0" ∷ [])
case100 = refl

case101 : printed by_id file101 ≡ lines (codes "refused 14 field 4 column 4" ∷ [])
case101 = refl

case102 : printed by_id file102 ≡ lines (codes "refused 14 field 1 column 1" ∷ [])
case102 = refl

case103 : printed by_id file103 ≡ lines (codes "rows 1" ∷ codes "row 0 {<>,false,[.c3a9,.73746172]}" ∷ codes "nan 6 2" ∷ [])
case103 = refl

case104 : printed by_id file104 ≡ lines (codes "refused 4 byte 321 column 22" ∷ [])
case104 = refl

case105 : printed by_id file105 ≡ lines (codes "rows 1" ∷ codes "row 0 {<0:4045000000000000>}" ∷ codes "nan 9 2" ∷ [])
case105 = refl

case106 : printed by_id file106 ≡ lines (codes "refused 3 byte 220 column 6" ∷ [])
case106 = refl

case107 : printed by_id file107 ≡ lines (codes "refused 3 byte 37 column 2" ∷ [])
case107 = refl

case108 : printed by_id file108 ≡ lines (codes "refused 14 field 4 column 4" ∷ [])
case108 = refl

case109 : printed by_id file109 ≡ lines (codes "refused 14 field 3 column 3" ∷ [])
case109 = refl

case110 : printed by_id file110 ≡ lines (codes "refused 1 byte 25 field 3" ∷ [])
case110 = refl

case111 : printed by_id file111 ≡ lines (codes "refused 1 byte 204 column 4" ∷ [])
case111 = refl

case112 : printed by_id file112 ≡ lines (codes "refused 1 byte 3 head 0" ∷ [])
case112 = refl

case113 : printed by_id file113 ≡ lines (codes "refused 1 byte 43 column 3" ∷ [])
case113 = refl

case114 : printed by_id file114 ≡ lines (codes "refused 6 byte 48 column 3" ∷ [])
case114 = refl

case115 : printed by_id file115 ≡ lines (codes "refused 4 byte 310 column 19" ∷ [])
case115 = refl

case116 : printed by_id file116 ≡ lines (codes "refused 12 field 1 column 1" ∷ [])
case116 = refl

case117 : printed by_id file117 ≡ lines (codes "refused 13 field 1 column 1" ∷ [])
case117 = refl

case118 : printed by_id file118 ≡ lines (codes "refused 1 byte 70 column 3" ∷ [])
case118 = refl

case119 : printed by_id file119 ≡ lines (codes "refused 1 byte 3 head 0" ∷ [])
case119 = refl

case120 : printed by_id file120 ≡ lines (codes "refused 1 byte 37 column 2" ∷ [])
case120 = refl

case121 : printed by_id file121 ≡ lines (codes "refused 3 byte 218 column 2" ∷ [])
case121 = refl

case122 : printed by_id file122 ≡ lines (codes "refused 12 field 1 column 1" ∷ [])
case122 = refl

case123 : printed by_id file123 ≡ lines (codes "refused 21 field 0 column 0" ∷ [])
case123 = refl

case124 : printed by_id file124 ≡ lines (codes "refused 12 field 4 column 6" ∷ [])
case124 = refl

case125 : printed by_id file125 ≡ lines (codes "refused 13 field 2 column 2" ∷ [])
case125 = refl

case126 : printed by_id file126 ≡ lines (codes "refused 1 byte 6 column 1" ∷ [])
case126 = refl

case127 : printed by_id file127 ≡ lines (codes "refused 10 field 2 column 1" ∷ [])
case127 = refl

case128 : printed by_id file128 ≡ lines (codes "refused 3 byte 9 field 1" ∷ [])
case128 = refl

case129 : printed by_id file129 ≡ lines (codes "refused 2 byte 63 column 2" ∷ [])
case129 = refl

case130 : printed by_id file130 ≡ lines (codes "refused 13 field 2 column 2" ∷ [])
case130 = refl

case131 : printed by_id file131 ≡ lines (codes "refused 15 field 4 column 7" ∷ [])
case131 = refl

case132 : printed by_id file132 ≡ lines (codes "refused 13 field 2 column 2" ∷ [])
case132 = refl

case133 : printed by_id file133 ≡ lines (codes "refused 1 byte 11 field 2" ∷ [])
case133 = refl

case134 : printed by_id file134 ≡ lines (codes "refused 19 field 1 column 1" ∷ [])
case134 = refl

case135 : printed by_id file135 ≡ lines (codes "refused 1 byte 76 column 1" ∷ [])
case135 = refl

case136 : printed by_id file136 ≡ lines (codes "refused 15 field 1 column 1" ∷ [])
case136 = refl

case137 : printed by_id file137 ≡ lines (codes "refused 16 field 1 column 1" ∷ [])
case137 = refl

case138 : printed by_id file138 ≡ lines (codes "refused 15 field 1 column 2" ∷ [])
case138 = refl

case139 : printed by_id file139 ≡ lines (codes "refused 13 field 1 column 1" ∷ [])
case139 = refl

case140 : printed by_id file140 ≡ lines (codes "refused 16 field 3 column 3" ∷ [])
case140 = refl

case141 : printed by_id file141 ≡ lines (codes "refused 4 byte 11 field 1" ∷ [])
case141 = refl

case142 : printed by_id file142 ≡ lines (codes "refused 14 field 9 column 9" ∷ [])
case142 = refl

case143 : printed by_id file143 ≡ lines (codes "refused 6 byte 144 column 2" ∷ [])
case143 = refl

case144 : printed by_id file144 ≡ lines (codes "refused 14 field 1 column 5" ∷ [])
case144 = refl

case145 : printed by_id file145 ≡ lines (codes "refused 4 byte 174 field 22" ∷ [])
case145 = refl

case146 : printed by_id file146 ≡ lines (codes "refused 13 field 2 column 3" ∷ [])
case146 = refl

case147 : printed by_id file147 ≡ lines (codes "refused 4 byte 161 field 20" ∷ [])
case147 = refl

case148 : printed by_id file148 ≡ lines (codes "refused 10 field 4 column 3" ∷ [])
case148 = refl

case149 : printed by_id file149 ≡ lines (codes "refused 15 field 1 column 1" ∷ [])
case149 = refl

case150 : printed by_id file150 ≡ lines (codes "refused 14 field 3 column 3" ∷ [])
case150 = refl

case151 : printed by_id file151 ≡ lines (codes "refused 14 field 1 column 1" ∷ [])
case151 = refl

case152 : printed by_id file152 ≡ lines (codes "refused 19 field 1 column 1" ∷ [])
case152 = refl

case153 : printed by_id file153 ≡ lines (codes "refused 16 field 1 column 1" ∷ [])
case153 = refl

case154 : printed by_id file154 ≡ lines (codes "refused 10 field 3 column 2" ∷ [])
case154 = refl

case155 : printed by_id file155 ≡ lines (codes "refused 21 field 0 column 0" ∷ [])
case155 = refl
