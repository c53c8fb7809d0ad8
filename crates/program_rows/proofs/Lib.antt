mod Infos
