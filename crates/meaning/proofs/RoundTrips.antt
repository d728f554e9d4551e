-- Accepted files, encoded again from what they mean: 120 of them, byte for byte.
use Rattle.std.proofs.Common.{◌≡◌, ℕ, List, [], Ok, Err, Result, refl}
use Rattle.meaning.specs.Model.{Model}
use Rattle.meaning.specs.Items.{BatchFault}
use Rattle.meaning.specs.File.{decode}
use Rattle.meaning.specs.Encode.{encode}
use Rattle.meaning.proofs.CaseFiles.{file0, file1, file2, file3, file4, file5, file6, file7, file8, file9, file10, file11, file12, file13, file14, file15, file16, file17, file18, file19, file20, file21, file22, file23, file24, file25, file26, file27, file28, file29, file30, file31, file32, file33, file34, file35, file36, file37, file39, file40, file41, file156, file42, file157, file158, file159, file43, file44, file45, file46, file160, file161, file48, file162, file49, file50, file51, file52, file53, file54, file163, file164, file56, file165, file57, file166, file58, file60, file61, file62, file64, file167, file168, file65, file66, file169, file170, file69, file171, file172, file173, file174, file175, file176, file177, file178, file73, file179, file180, file181, file182, file183, file74, file75, file184, file185, file76, file186, file187, file188, file77, file189, file78, file190, file191, file79, file80, file192, file193, file194, file195, file196, file81, file82, file197, file83}

-- a file's encoding from what it means; none for a refused one
abbrev again : Result Model BatchFault → List ℕ
again (Ok m) = encode m
again (Err e) = []

case0 : again (decode file0) ≡ file0
case0 = refl

case1 : again (decode file1) ≡ file1
case1 = refl

case2 : again (decode file2) ≡ file2
case2 = refl

case3 : again (decode file3) ≡ file3
case3 = refl

case4 : again (decode file4) ≡ file4
case4 = refl

case5 : again (decode file5) ≡ file5
case5 = refl

case6 : again (decode file6) ≡ file6
case6 = refl

case7 : again (decode file7) ≡ file7
case7 = refl

case8 : again (decode file8) ≡ file8
case8 = refl

case9 : again (decode file9) ≡ file9
case9 = refl

case10 : again (decode file10) ≡ file10
case10 = refl

case11 : again (decode file11) ≡ file11
case11 = refl

case12 : again (decode file12) ≡ file12
case12 = refl

case13 : again (decode file13) ≡ file13
case13 = refl

case14 : again (decode file14) ≡ file14
case14 = refl

case15 : again (decode file15) ≡ file15
case15 = refl

case16 : again (decode file16) ≡ file16
case16 = refl

case17 : again (decode file17) ≡ file17
case17 = refl

case18 : again (decode file18) ≡ file18
case18 = refl

case19 : again (decode file19) ≡ file19
case19 = refl

case20 : again (decode file20) ≡ file20
case20 = refl

case21 : again (decode file21) ≡ file21
case21 = refl

case22 : again (decode file22) ≡ file22
case22 = refl

case23 : again (decode file23) ≡ file23
case23 = refl

case24 : again (decode file24) ≡ file24
case24 = refl

case25 : again (decode file25) ≡ file25
case25 = refl

case26 : again (decode file26) ≡ file26
case26 = refl

case27 : again (decode file27) ≡ file27
case27 = refl

case28 : again (decode file28) ≡ file28
case28 = refl

case29 : again (decode file29) ≡ file29
case29 = refl

case30 : again (decode file30) ≡ file30
case30 = refl

case31 : again (decode file31) ≡ file31
case31 = refl

case32 : again (decode file32) ≡ file32
case32 = refl

case33 : again (decode file33) ≡ file33
case33 = refl

case34 : again (decode file34) ≡ file34
case34 = refl

case35 : again (decode file35) ≡ file35
case35 = refl

case36 : again (decode file36) ≡ file36
case36 = refl

case37 : again (decode file37) ≡ file37
case37 = refl

case38 : again (decode file39) ≡ file39
case38 = refl

case39 : again (decode file40) ≡ file40
case39 = refl

case40 : again (decode file41) ≡ file41
case40 = refl

case41 : again (decode file156) ≡ file156
case41 = refl

case42 : again (decode file42) ≡ file42
case42 = refl

case43 : again (decode file157) ≡ file157
case43 = refl

case44 : again (decode file158) ≡ file158
case44 = refl

case45 : again (decode file159) ≡ file159
case45 = refl

case46 : again (decode file43) ≡ file43
case46 = refl

case47 : again (decode file157) ≡ file157
case47 = refl

case48 : again (decode file44) ≡ file44
case48 = refl

case49 : again (decode file45) ≡ file45
case49 = refl

case50 : again (decode file46) ≡ file46
case50 = refl

case51 : again (decode file160) ≡ file160
case51 = refl

case52 : again (decode file161) ≡ file161
case52 = refl

case53 : again (decode file48) ≡ file48
case53 = refl

case54 : again (decode file162) ≡ file162
case54 = refl

case55 : again (decode file49) ≡ file49
case55 = refl

case56 : again (decode file50) ≡ file50
case56 = refl

case57 : again (decode file51) ≡ file51
case57 = refl

case58 : again (decode file52) ≡ file52
case58 = refl

case59 : again (decode file53) ≡ file53
case59 = refl

case60 : again (decode file54) ≡ file54
case60 = refl

case61 : again (decode file163) ≡ file163
case61 = refl

case62 : again (decode file164) ≡ file164
case62 = refl

case63 : again (decode file56) ≡ file56
case63 = refl

case64 : again (decode file165) ≡ file165
case64 = refl

case65 : again (decode file57) ≡ file57
case65 = refl

case66 : again (decode file166) ≡ file166
case66 = refl

case67 : again (decode file58) ≡ file58
case67 = refl

case68 : again (decode file60) ≡ file60
case68 = refl

case69 : again (decode file61) ≡ file61
case69 = refl

case70 : again (decode file62) ≡ file62
case70 = refl

case71 : again (decode file157) ≡ file157
case71 = refl

case72 : again (decode file64) ≡ file64
case72 = refl

case73 : again (decode file167) ≡ file167
case73 = refl

case74 : again (decode file168) ≡ file168
case74 = refl

case75 : again (decode file65) ≡ file65
case75 = refl

case76 : again (decode file66) ≡ file66
case76 = refl

case77 : again (decode file169) ≡ file169
case77 = refl

case78 : again (decode file170) ≡ file170
case78 = refl

case79 : again (decode file69) ≡ file69
case79 = refl

case80 : again (decode file171) ≡ file171
case80 = refl

case81 : again (decode file172) ≡ file172
case81 = refl

case82 : again (decode file173) ≡ file173
case82 = refl

case83 : again (decode file174) ≡ file174
case83 = refl

case84 : again (decode file175) ≡ file175
case84 = refl

case85 : again (decode file9) ≡ file9
case85 = refl

case86 : again (decode file176) ≡ file176
case86 = refl

case87 : again (decode file177) ≡ file177
case87 = refl

case88 : again (decode file178) ≡ file178
case88 = refl

case89 : again (decode file73) ≡ file73
case89 = refl

case90 : again (decode file179) ≡ file179
case90 = refl

case91 : again (decode file180) ≡ file180
case91 = refl

case92 : again (decode file181) ≡ file181
case92 = refl

case93 : again (decode file182) ≡ file182
case93 = refl

case94 : again (decode file157) ≡ file157
case94 = refl

case95 : again (decode file183) ≡ file183
case95 = refl

case96 : again (decode file74) ≡ file74
case96 = refl

case97 : again (decode file75) ≡ file75
case97 = refl

case98 : again (decode file184) ≡ file184
case98 = refl

case99 : again (decode file185) ≡ file185
case99 = refl

case100 : again (decode file76) ≡ file76
case100 = refl

case101 : again (decode file186) ≡ file186
case101 = refl

case102 : again (decode file187) ≡ file187
case102 = refl

case103 : again (decode file188) ≡ file188
case103 = refl

case104 : again (decode file77) ≡ file77
case104 = refl

case105 : again (decode file189) ≡ file189
case105 = refl

case106 : again (decode file78) ≡ file78
case106 = refl

case107 : again (decode file190) ≡ file190
case107 = refl

case108 : again (decode file191) ≡ file191
case108 = refl

case109 : again (decode file79) ≡ file79
case109 = refl

case110 : again (decode file80) ≡ file80
case110 = refl

case111 : again (decode file192) ≡ file192
case111 = refl

case112 : again (decode file193) ≡ file193
case112 = refl

case113 : again (decode file194) ≡ file194
case113 = refl

case114 : again (decode file195) ≡ file195
case114 = refl

case115 : again (decode file196) ≡ file196
case115 = refl

case116 : again (decode file81) ≡ file81
case116 = refl

case117 : again (decode file82) ≡ file82
case117 = refl

case118 : again (decode file197) ≡ file197
case118 = refl

case119 : again (decode file83) ≡ file83
case119 = refl
